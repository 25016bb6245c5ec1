use Rattle.std.proofs.Common.{◌≡◌, ◌≢◌, ℕ, true, false, eqb, not, ◌+◌, ◌<◌, length, sym, ap, ◌∙◌, subst, inl, inr, arith}
use Rattle.std.specs.Prelude.{IsTrue, ◌==◌}
use Rattle.std.proofs.lemmas.Bool.{cases_eq, eq-eqb, ne_eqb}
use Rattle.link_merges.specs.Halves.{row_at, AreToJoin}
use Rattle.link_merges.proofs.Joining.{one_joined, one_cycle, first_to_join, halfway, both_joined}
use Rattle.link_merges.proofs.halves.+join.Goals as goal

differ : (a b : ℕ) → IsTrue (not (eqb a b)) → a ≢ b
differ a b is same = let no = subst (λ t. IsTrue (not t)) (eq-eqb a b same) is in cc

one : (k : ℕ) → k < 2 → false ≡ (k == 0) → k ≡ 1
one k lt some = search (arith, cases_eq, eq-eqb)

equal : (a b : ℕ) → not (eqb a b) ≡ false → a ≡ b
equal a b is = elim (cases_eq a b) [ inl same ↦ same | inr other ↦ let e = ne_eqb a b other in absurd (let no : true ≡ false = sym (ap not e) ∙ is in cc) ]

pub returns-else-is_empty-clause-joined : goal.returns-else-is_empty-clause-joined
returns-else-is_empty-clause-joined t c is n k links name are = one_joined n links k c.args.rows.now
    (one (length c.args.rows.now) c.if-rows-lt2.true (sym c.if-is_empty.false ∙ c.is_empty.ensures)) are (differ (row_at c.args.rows.now 0).first (row_at c.args.rows.now 0).second is)

pub returns-else-is_empty-clause-cycle : goal.returns-else-is_empty-clause-cycle
returns-else-is_empty-clause-cycle t c is n k links name are = one_cycle n links k c.args.rows.now
    (one (length c.args.rows.now) c.if-rows-lt2.true (sym c.if-is_empty.false ∙ c.is_empty.ensures)) are (equal (row_at c.args.rows.now 0).first (row_at c.args.rows.now 0).second is)

pub returns-then-not-join-clause-cycle : goal.returns-then-not-join-clause-cycle
returns-then-not-join-clause-cycle t c is n k links name are =
    let s = c.split_at_mut-first in
    c.join.ensures.cycle c.if-not-join.true n k links name
    (first_to_join n links k s.result.0.now s.result.1.now (subst (AreToJoin n links k) s.ensures.value are))

pub returns-clause-joined : goal.returns-clause-joined
returns-clause-joined t c is n k links name are =
    let s = c.split_at_mut-first in
    let front = s.ensures.front_len in
    let len = c.join.auto.rows in
    let half = halfway n links k s.result.0.now s.result.1.now (subst (AreToJoin n links k) s.ensures.value are) c.join.new.rows c.move_on.new.rows c.lead_on.new.now len c.move_on.auto.rows
    (c.join.ensures.joined c.if-not-join.false n k links name) (c.lead_on.ensures.leads n k links name) c.move_on.ensures in
    both_joined n links k c.join.new.rows c.join-2.new.rows half.0 (c.join-2.ensures.joined is n (k + length c.join.new.rows) links (omega (arith, len, front, name)) half.1)

pub returns-clause-cycle : goal.returns-clause-cycle
returns-clause-cycle t c is n k links name are =
    let s = c.split_at_mut-first in
    let front = s.ensures.front_len in
    let len = c.join.auto.rows in
    let half = halfway n links k s.result.0.now s.result.1.now (subst (AreToJoin n links k) s.ensures.value are) c.join.new.rows c.move_on.new.rows c.lead_on.new.now len c.move_on.auto.rows
    (c.join.ensures.joined c.if-not-join.false n k links name) (c.lead_on.ensures.leads n k links name) c.move_on.ensures in
    c.join-2.ensures.cycle is n (k + length c.join.new.rows) links (omega (arith, len, front, name)) half.1
