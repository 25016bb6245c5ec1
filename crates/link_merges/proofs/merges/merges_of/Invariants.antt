use Rattle.link_merges.specs.Halves.{AreMergesUpTo}
use Rattle.link_merges.proofs.merges.merges_of.Given as goal

abbrev pub invariant-loop-i : goal.invariant-loop-i
invariant-loop-i g l = AreMergesUpTo l.n l.links l.i l.rows.items
