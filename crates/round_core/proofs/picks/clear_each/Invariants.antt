use Rattle.round_core.specs.PickNumbers.{AreCleared}
use Rattle.round_core.proofs.picks.clear_each.Given as goal

abbrev pub invariant-loop-label : goal.invariant-loop-label
invariant-loop-label l = AreCleared l.labels l.label-index l.initial.numbers l.numbers
