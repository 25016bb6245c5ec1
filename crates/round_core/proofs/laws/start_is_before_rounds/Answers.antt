use Rattle.round_core.proofs.WholeRounds.{at_first}
use Rattle.round_core.proofs.laws.start_is_before_rounds.Goals as goal

pub returns : goal.returns
returns c = at_first
