use Rattle.std.proofs.Common.{sym, refl, arith}
use Rattle.std.proofs.lemmas.Int.{ints}
use Rattle.round_core.proofs.PickNumbers.{no_pick_is_none, pick_is}
use Rattle.round_core.proofs.picks.pick_of_number.Goals as goal

pub returns-then-number-eq-NO_PICK : goal.returns-then-number-eq-NO_PICK
returns-then-number-eq-NO_PICK c = sym (no_pick_is_none c.args.number c.if-number-eq-NO_PICK.true)

pub returns : goal.returns
returns c = pick_is c.args.number _ c.requires c.if-number-eq-NO_PICK.false (omega (arith, ints, c.ranges.number)) refl refl
