use Rattle.std.proofs.Common.{◌≡◌, ℕ, length, subst, arith}
use Rattle.round_core.specs.PickNumbers.{AreCleared}
use Rattle.round_core.proofs.Clearing.{cleared_more}
use Rattle.round_core.proofs.picks.clear_each.Goals as goal

pub loop-label-preserved : goal.loop-label-preserved
loop-label-preserved c = search (arith, cleared_more)

pub returns : goal.returns
returns c = search arith
