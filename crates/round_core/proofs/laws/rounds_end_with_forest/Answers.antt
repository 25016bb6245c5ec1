use Rattle.round_core.proofs.WholeRounds.{none_missed, is_forest}
use Rattle.round_core.proofs.laws.rounds_end_with_forest.Goals as goal

pub returns : goal.returns
returns c = record { none_missed = none_missed; forest = is_forest }
