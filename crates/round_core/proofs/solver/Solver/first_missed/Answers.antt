use Rattle.std.proofs.Common.{sym, subst, arith}
use Rattle.std.specs.Prelude.{All}
use Rattle.links.specs.Link.{EndsUpTo}
use Rattle.round_core.specs.Solver.{Progress, vertices}
use Rattle.round_core.proofs.Missing.{joined_ends}
use Rattle.round_core.proofs.solver.Solver.first_missed.Goals as goal

pub first_missed-requires : goal.first_missed-requires
first_missed-requires g c = search (arith, joined_ends)
