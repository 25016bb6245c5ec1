use Rattle.std.proofs.Common.{◌≡◌, ℕ, ◌+◌, ◌-◌, ◌<◌, List, length, get_or, set, sym, ap, ◌∙◌, subst, inl, inr, ⊎_elim, arith}
use Rattle.std.proofs.lemmas.List.{length-set, get_or_default}
use Rattle.link_merges.specs.declared.merges.Merge.{Merge}
use Rattle.link_merges.specs.Halves.{row_at, now_of, LeadsOn}
use Rattle.link_merges.proofs.Joining.{leads_back}
use Rattle.link_merges.proofs.Moving.{both_set}
use Rattle.link_merges.proofs.halves.lead_on.Goals as goal

pub loop-i-preserved : goal.loop-i-preserved
loop-i-preserved c =
    let rows : List Merge = c.args.rows.now in
    let now : List ℕ = c.loop-i.now in
    let inv = c.loop-i.invariant in
    let i : ℕ = c.loop-i.i - 1 in
    let some = c.loop-i-test.true in
    let most = c.loop-i.auto.i in
    let room = c.requires.room in
    let len : length now ≡ length c.args.now.now = c.loop-i.auto.now in
    let lt : c.loop-i.i - 1 < length rows = omega (arith, some, most) in
    let name_in : c.args.name + (c.loop-i.i - 1) < length now = omega (arith, lt, room, len) in
    let below = c.requires.below (c.loop-i.i - 1) lt in
    let x : ℕ = (row_at rows (c.loop-i.i - 1)).first in
    let y : ℕ = (row_at rows (c.loop-i.i - 1)).second in
    let x_in : (row_at rows (c.loop-i.i - 1)).first < length now = let is = below.0 in omega (arith, is, len) in
    let y_in : (row_at rows (c.loop-i.i - 1)).second < length now = let is = below.1 in omega (arith, is, len) in
    let next : ℕ = get_or now (c.args.name + (c.loop-i.i - 1)) 0 in
    let next_is : now_of now (c.args.name + (c.loop-i.i - 1)) ≡ next = get_or_default now (c.args.name + (c.loop-i.i - 1)) (c.args.name + (c.loop-i.i - 1)) 0 name_in in
    let same_len : length (set (set now x next) y next) ≡ length now = length-set (set now x next) y next ∙ length-set now x next in
    let all = both_set now x y next x_in y_in in
    record {
      in_range = λ d d_in. elim (all d) [
        | inl (either, here) ↦ let lt' = inv.in_range (c.args.name + (c.loop-i.i - 1)) name_in in omega (arith, here, next_is, lt', same_len)
        | inr (not_x, not_y, as_was) ↦ let was = inv.in_range d (omega (arith, d_in, same_len)) in omega (arith, as_was, was, same_len)
      ];
      others = λ d none. elim (all d) [
        | inl (either, here) ↦ absurd (⊎_elim (none (c.loop-i.i - 1) lt).0 (none (c.loop-i.i - 1) lt).1 either)
        | inr (not_x, not_y, as_was) ↦ as_was ∙ inv.others d none
      ];
      leads = λ n k links is are.
          let here : c.args.name + (c.loop-i.i - 1) ≡ n + k + (c.loop-i.i - 1) = omega (arith, is) in
          let after : k + c.loop-i.i ≡ k + (c.loop-i.i - 1 + 1) = omega (arith, some) in
          leads_back n links k rows are (c.loop-i.i - 1) (k + length rows) now next lt x_in y_in (sym next_is ∙ ap (now_of now) here)
          (subst (λ j. LeadsOn n links j (k + length rows) now) after (inv.leads n k links is are));
    }

pub returns-clause-leads : goal.returns-clause-leads
returns-clause-leads c n k links is are =
    let here : k + c.loop-i.i ≡ k = let over = c.loop-i-test.false in omega (arith, over) in
    subst (λ j. LeadsOn n links j (k + length c.args.rows.now) c.loop-i.now) here (c.loop-i.invariant.leads n k links is are)
