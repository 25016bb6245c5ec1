use Rattle.std.proofs.Common.{Contains, arith}
use Rattle.round_theory.specs.Offers.{IsNamed}
use Rattle.round_theory.proofs.Steps.{pick_is_new, added_close_no_cycle, picked_from_both_sides}
use Rattle.round_theory.proofs.laws.picks_close_no_cycle.Goals as goal

pub returns : goal.returns
returns c = search (arith, pick_is_new, picked_from_both_sides, added_close_no_cycle)
