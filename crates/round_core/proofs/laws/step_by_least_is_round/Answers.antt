use Rattle.round_core.proofs.WholeRounds.{round_of, only_memory}
use Rattle.round_core.proofs.laws.step_by_least_is_round.Goals as goal

pub returns : goal.returns
returns c = record { round = round_of; in_time = only_memory }
