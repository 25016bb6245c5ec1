use Rattle.std.proofs.Common.{arith}
use Rattle.round_theory.proofs.Leaving.{leaves_both_ends}
use Rattle.round_theory.proofs.Cutting.{light_offers_suffice, any_cut_any_order, order_of_hearing_is_free}
use Rattle.round_theory.proofs.laws.light_offers_suffice.Goals as goal

pub returns : goal.returns
returns c = search (arith, light_offers_suffice, any_cut_any_order, order_of_hearing_is_free, leaves_both_ends)
