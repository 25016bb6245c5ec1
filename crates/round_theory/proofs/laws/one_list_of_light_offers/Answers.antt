use Rattle.round_theory.proofs.LightOffers.{light_offers_exist, light_offers_unique, light_offers_leave}
use Rattle.round_theory.proofs.laws.one_list_of_light_offers.Goals as goal

pub returns : goal.returns
returns c = record { exists = light_offers_exist; unique = light_offers_unique; leave = light_offers_leave }
