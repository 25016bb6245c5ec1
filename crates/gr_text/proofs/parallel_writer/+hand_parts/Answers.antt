use Rattle.std.proofs.Common.{◌≡◌, ◌≤◌, ◌∷◌, length, ap, subst, arith, rules}
use Rattle.std.specs.List.{AllByRecursion}
use Rattle.std.proofs.lemmas.Result.{err_from_is_err_and}
use Rattle.gr_text.specs.declared.parallel_writer.TheConstants.{PART_ROOM}
use Rattle.gr_text.proofs.Handing.{out_stopped, out_then_out}
use Rattle.gr_text.proofs.parallel_writer.+hand_parts.Goals as goal

pub returns-in_err-total : goal.returns-in_err-total
returns-in_err-total g t c =
    let p = err_from_is_err_and c.from_residual.result c.from_residual.ensures.1 in
    let is : c.args.bytes.now ≡ c.in-Some.field-0-0.now ∷ c.in-Some.of_others.now = search rules in
    rw (p.1, p.2, is) (out_stopped _ _ _ _ _ _ _ (rw c.split_at.ensures.front at c.in_err-total.ensures.part))

pub returns : goal.returns
returns g t c =
    let is : c.args.bytes.now ≡ c.in-Some.field-0-0.now ∷ c.in-Some.of_others.now = search rules in
    rw is (out_then_out _ _ _ _ _ _ _ _ _ (rw c.split_at.ensures.front at c.in_ok-total.ensures.whole) (rw c.split_at-2.ensures.back at c.hand_parts.ensures))

pub hand_parts-requires : goal.hand_parts-requires
hand_parts-requires g t c = search arith
