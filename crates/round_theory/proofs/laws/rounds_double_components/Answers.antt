use Rattle.round_theory.proofs.Rounds.{rounds_at_most, round_in_time}
use Rattle.round_theory.proofs.laws.rounds_double_components.Goals as goal

pub returns : goal.returns
returns c = record { at_most = rounds_at_most; in_time = round_in_time }
