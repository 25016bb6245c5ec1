use Rattle.round_core.proofs.Honest.{light_offers_are_taken}
use Rattle.round_core.proofs.laws.light_offers_are_taken.Goals as goal

pub returns : goal.returns
returns c = light_offers_are_taken
