use Rattle.std.proofs.Common.{take}
use Rattle.worked_graphs.proofs.Rows.{Made}
use Rattle.worked_graphs.proofs.links_of.Given as goal

abbrev pub invariant-loop-row : goal.invariant-loop-row
invariant-loop-row g l = Made l.n (take l.row-index l.arcs) l.links.items
