-- The rule holds when the board is opened, and when seats are split off and joined again. None of this adds an event.
use Rattle.std.proofs.Common.{◌≡◌, ◌≢◌, ℕ, zero, suc, ◌+◌, ◌≤◌, ◌==◌, cond, List, [], ◌∷◌, ◌++◌, length, set, replicate, get_or, take, length-take-le, refl, sym, ap, ◌∙◌, subst, ⊎_elim}
use Rattle.std.proofs.Common.{arith, add-zero, length-set}
use Rattle.std.specs.Prelude.{slice_index}
use mathlib.Core.Option.{some, some-ne-none, some-injective}
use lib.ListN.{get_elem?}
use Rattle.std.proofs.lemmas.List.{length-replicate}
use Rattle.std.proofs.lemmas.Bool.{eq-eqb, ne_eqb, cases_eq}
use Rattle.atomic_table.specs.Table.{Splits, Joins}
use Rattle.atomic_table.proofs.Lists.{at_set, set_here, set_else, at_longer, at_last}
use Rattle.claim_board.specs.declared.event.Event.{Event}
use Rattle.claim_board.specs.declared.rule.Size.{Size}
use Rattle.claim_board.specs.declared.rule.View.{View}
use Rattle.claim_board.specs.Machine.{of_seat}
use Rattle.claim_board.specs.Rule.{Knows, IsSeatedAt, AgreesWithRun, several, lone, opener, without_first, first_alone, with_before, nobody}
use Rattle.claim_board.proofs.Lists.{at_within, at_end, at_replicate, of_replicate}
use Rattle.claim_board.proofs.Runs.{IsRun-none}
use Rattle.claim_board.proofs.Steps.{Rules}

-- ---- the table is made

pub begins : (size : Size) (row : List ℕ) → length row ≡ size.shards → ((shard : ℕ) → slice_index row shard ≡ 0) → AgreesWithRun size row (opener size ∷ [])
begins size row long zeros = record {
  run = [];
  is_run = IsRun-none;
  shards = long;
  words = zeros;
  place = λ number. 0;
  known = known;
  seated = λ number within. (opener size, [], refl, (number, omega arith, at_replicate size.seats number [] within));
  others = λ number past. refl;
}
  where
    known : (place : ℕ) (view : View) (number : ℕ) (events : List Event) → get_elem? (opener size ∷ []) place ≡ some view → Knows view number events → (0 ≡ place) × ([] ≡ events) × (view.size ≡ size)
    known zero view number events there knows =
        let is : opener size ≡ view = some-injective (opener size) view there in
        let k = subst (λ (v : View). Knows v number events) (sym is) knows in
        (refl, of_replicate size.seats k.0 [] events k.2, ap (λ (v : View). v.size) (sym is))
    known (suc place) view number events there knows = absurd (some-ne-none view (sym there))

take_zeros : (m n k : ℕ) → get_or {A = ℕ} (take m (replicate n 0)) k 0 ≡ 0
take_zeros zero n k = refl
take_zeros (suc m) zero k = refl
take_zeros (suc m) (suc n) zero = refl
take_zeros (suc m) (suc n) (suc k) = take_zeros m n k

-- a list of as many zeros as there are shards
pub begins_free : (size : Size) (most : ℕ) → size.shards ≤ most → AgreesWithRun size (take size.shards (replicate most 0)) (opener size ∷ [])
begins_free size most few = begins size (take size.shards (replicate most 0)) (length-take-le size.shards (replicate {A = ℕ} most 0) (rw (length-replicate {A = ℕ}) few)) (take_zeros size.shards most)

-- ---- a seat is split off
-- The run and the words stay the same. The view's first number gets a new index, after all views.
-- The indices of the other numbers stay the same.

module _ (key size : Size) (row : List ℕ) (views : List View) (rule : AgreesWithRun key row views) (id first : ℕ) (events : List Event)
    (rest : List (List Event)) (at : get_elem? views id ≡ some (several size first (events ∷ rest))) where
  abbrev cut : List View
  cut = set views id (several size (first + 1) rest) ++ lone size first events ∷ []

  abbrev place_after : ℕ → ℕ
  place_after number = cond (number == first) (length views) (rule.place number)

  first_known : (rule.place first ≡ id) × (of_seat first rule.run ≡ events) × (size ≡ key)
  first_known = rule.known id (several size first (events ∷ rest)) first events at (0, sym (add-zero first), refl)

  -- a number other than the first keeps its index
  stays : (number : ℕ) → number ≢ first → place_after number ≡ rule.place number
  stays number apart = ap (λ b. cond b (length views) (rule.place number)) (ne_eqb number first apart)

  moves : (number : ℕ) → number ≡ first → place_after number ≡ length views
  moves number is = ap (λ b. cond b (length views) (rule.place number)) (eq-eqb number first is)

  later_known : (place : ℕ) (view : View) (number : ℕ) (list : List Event) → place ≡ id → several size (first + 1) rest ≡ view → Knows view number list
      → (place_after number ≡ place) × (of_seat number rule.run ≡ list) × (view.size ≡ key)
  later_known place view number list here is knows =
      let k = subst (λ (v : View). Knows v number list) (sym is) knows in
      let k1 = k.1 in
      let old = rule.known id (several size first (events ∷ rest)) number list at (suc k.0, omega arith, k.2) in
      (stays number (λ e. omega arith) ∙ old.0 ∙ sym here, old.1, ap (λ (v : View). v.size) (sym is) ∙ old.2)

  other_known : (place : ℕ) (view : View) (number : ℕ) (list : List Event) → place ≢ id → get_elem? views place ≡ some view → Knows view number list
      → (place_after number ≡ place) × (of_seat number rule.run ≡ list) × (view.size ≡ key)
  other_known place view number list apart there knows =
      let old = rule.known place view number list there knows in
      (stays number (λ e. apart (sym old.0 ∙ ap rule.place e ∙ first_known.0)) ∙ old.0, old.1, old.2)

  new_known : (place : ℕ) (view : View) (number : ℕ) (list : List Event) → place ≡ length views → lone size first events ≡ view → Knows view number list
      → (place_after number ≡ place) × (of_seat number rule.run ≡ list) × (view.size ≡ key)
  new_known place view number list last is knows = of_lone (subst (λ (v : View). Knows v number list) (sym is) knows)
    where
      of_lone : Knows (lone size first events) number list → (place_after number ≡ place) × (of_seat number rule.run ≡ list) × (view.size ≡ key)
      of_lone (zero, number_is, same) =
          let e = number_is ∙ add-zero first in
          (moves number e ∙ sym last, ap (λ n. of_seat n rule.run) e ∙ first_known.1 ∙ some-injective events list same, ap (λ (v : View). v.size) (sym is) ∙ first_known.2)
      of_lone (suc k, number_is, same) = absurd (some-ne-none list (sym same))

  seated_after : (number : ℕ) → IsSeatedAt views (rule.place number) number → IsSeatedAt cut (place_after number) number
  seated_after number old =
      ⊎_elim
      (λ (e : number ≡ first). (
        lone size first events,
        events,
        ap (get_elem? cut) (moves number e) ∙ at_last (set views id (several size (first + 1) rest)) (lone size first events) (length views) (length-set views id (several size (first + 1) rest)),
        (0, e ∙ sym (add-zero first), refl),
      ))
      (λ (apart : number ≢ first). subst (λ p. IsSeatedAt cut p number) (sym (stays number apart))
      (⊎_elim
      (λ (here : rule.place number ≡ id). at_id apart here)
      (λ (far : rule.place number ≢ id). (
        old.0,
        old.1,
        at_longer (set views id (several size (first + 1) rest)) (lone size first events ∷ []) (rule.place number) old.0
            (set_else views id (rule.place number) (several size (first + 1) rest) far ∙ old.2),
        old.3,
      ))
      (cases_eq (rule.place number) id)))
      (cases_eq number first)
    where
      at_id : number ≢ first → rule.place number ≡ id → IsSeatedAt cut (rule.place number) number
      at_id apart here =
          let view_is : several size first (events ∷ rest) ≡ old.0 = some-injective (several size first (events ∷ rest)) old.0 (sym at ∙ ap (get_elem? views) (sym here) ∙ old.2) in
          later (subst (λ (v : View). Knows v number old.1) (sym view_is) old.3)
        where
          later : Knows (several size first (events ∷ rest)) number old.1 → IsSeatedAt cut (rule.place number) number
          later (zero, number_is, same) = absurd (apart (number_is ∙ add-zero first))
          later (suc k, number_is, same) = (
            several size (first + 1) rest,
            old.1,
            at_longer (set views id (several size (first + 1) rest)) (lone size first events ∷ []) (rule.place number) (several size (first + 1) rest)
                (ap (get_elem? (set views id (several size (first + 1) rest))) here ∙ set_here views id (several size (first + 1) rest) (at_within views id (several size first (events ∷ rest)) at)),
            (k, omega arith, same),
          )

  pub splits : AgreesWithRun key row cut
  splits = record {
    run = rule.run;
    is_run = rule.is_run;
    shards = rule.shards;
    words = rule.words;
    place = place_after;
    known = λ place view number list there knows. ⊎_elim
        (λ (h : get_elem? (set views id (several size (first + 1) rest)) place ≡ some view). ⊎_elim
        (λ (t : (place ≡ id) × (several size (first + 1) rest ≡ view)). later_known place view number list t.0 t.1 knows)
        (λ (t : (place ≢ id) × (get_elem? views place ≡ some view)). other_known place view number list t.0 t.1 knows)
        (at_set views id place (several size (first + 1) rest) view h))
        (λ (t : (place ≡ length (set views id (several size (first + 1) rest))) × (lone size first events ≡ view)). new_known place view number list
        (t.0 ∙ length-set views id (several size (first + 1) rest)) t.1 knows)
        (at_end (set views id (several size (first + 1) rest)) (lone size first events) view place there);
    seated = λ number within. seated_after number (rule.seated number within);
    others = rule.others;
  }

pub split_allowed : (key : Size) (id : ℕ) (view : View) (events : List Event) (rest : List (List Event)) → view.lists ≡ events ∷ rest
    → Splits (Rules key) id view (without_first view) (first_alone view)
split_allowed key id view events rest is = search (arith, splits)

-- ---- a seat is joined
-- The run and the words stay the same. The joined view's only number gets the index of the kept view, where it comes
-- before that view's numbers. The joined view is left without numbers.

module _ (key : Size) (v : View) (size : Size) (first : ℕ) (events : List Event) (row : List ℕ) (views : List View) (rule : AgreesWithRun key row views) (id other : ℕ)
    (before : first + 1 ≡ v.first) (at : get_elem? views id ≡ some v) (apart : ¬ (other ≡ id)) (there : get_elem? views other ≡ some (lone size first events)) where
  abbrev both : View
  both = several size first (events ∷ v.lists)

  abbrev kept : List View
  kept = set views id both

  abbrev joined : List View
  joined = set kept other nobody

  abbrev place_joined : ℕ → ℕ
  place_joined number = cond (number == first) id (rule.place number)

  first_was : (rule.place first ≡ other) × (of_seat first rule.run ≡ events) × (size ≡ key)
  first_was = rule.known other (lone size first events) first events there (0, sym (add-zero first), refl)

  first_is : (number : ℕ) → number ≡ first → place_joined number ≡ id
  first_is number is = ap (λ b. cond b id (rule.place number)) (eq-eqb number first is)

  not_first : (number : ℕ) → number ≢ first → place_joined number ≡ rule.place number
  not_first number is = ap (λ b. cond b id (rule.place number)) (ne_eqb number first is)

  at_both : get_elem? joined id ≡ some both
  at_both = set_else kept other id nobody (λ e. apart (sym e)) ∙ set_here views id both (at_within views id v at)

  both_known : (place : ℕ) (view : View) (number : ℕ) (list : List Event) → place ≡ id → both ≡ view → Knows view number list
      → (place_joined number ≡ place) × (of_seat number rule.run ≡ list) × (view.size ≡ key)
  both_known place view number list here is knows = of_both (subst (λ (u : View). Knows u number list) (sym is) knows)
    where
      of_both : Knows both number list → (place_joined number ≡ place) × (of_seat number rule.run ≡ list) × (view.size ≡ key)
      of_both (zero, number_is, same) =
          let e = number_is ∙ add-zero first in
          (first_is number e ∙ sym here, ap (λ n. of_seat n rule.run) e ∙ first_was.1 ∙ some-injective events list same, ap (λ (u : View). u.size) (sym is) ∙ first_was.2)
      of_both (suc k, number_is, same) =
          let old = rule.known id v number list at (k, omega arith, same) in
          (not_first number (λ e. omega arith) ∙ old.0 ∙ sym here, old.1, ap (λ (u : View). u.size) (sym is) ∙ first_was.2)

  rest_known : (place : ℕ) (view : View) (number : ℕ) (list : List Event) → place ≢ other → get_elem? views place ≡ some view → Knows view number list
      → place ≢ id → (place_joined number ≡ place) × (of_seat number rule.run ≡ list) × (view.size ≡ key)
  rest_known place view number list far here knows away =
      let old = rule.known place view number list here knows in
      (not_first number (λ e. far (sym old.0 ∙ ap rule.place e ∙ first_was.0)) ∙ old.0, old.1, old.2)

  seated_joined : (number : ℕ) → IsSeatedAt views (rule.place number) number → IsSeatedAt joined (place_joined number) number
  seated_joined number old =
      ⊎_elim
      (λ (e : number ≡ first). (both, events, ap (get_elem? joined) (first_is number e) ∙ at_both, (0, e ∙ sym (add-zero first), refl)))
      (λ (later : number ≢ first). subst (λ p. IsSeatedAt joined p number) (sym (not_first number later))
      (⊎_elim
      (λ (here : rule.place number ≡ id).
      let view_is : v ≡ old.0 = some-injective v old.0 (sym at ∙ ap (get_elem? views) (sym here) ∙ old.2) in
      let k = subst (λ (u : View). Knows u number old.1) (sym view_is) old.3 in
      let k1 = k.1 in
      (both, old.1, ap (get_elem? joined) here ∙ at_both, (suc k.0, omega arith, k.2)))
      (λ (far : rule.place number ≢ id). ⊎_elim (λ (here : rule.place number ≡ other). at_other later here)
      (λ (farther : rule.place number ≢ other). (old.0, old.1, set_else kept other (rule.place number) nobody farther ∙ set_else views id (rule.place number) both far ∙ old.2, old.3))
      (cases_eq (rule.place number) other))
      (cases_eq (rule.place number) id)))
      (cases_eq number first)
    where
      -- the joined seat had only its first number
      at_other : number ≢ first → rule.place number ≡ other → IsSeatedAt joined (rule.place number) number
      at_other later here =
          let view_is : lone size first events ≡ old.0 = some-injective (lone size first events) old.0 (sym there ∙ ap (get_elem? views) (sym here) ∙ old.2) in
          no_other (subst (λ (u : View). Knows u number old.1) (sym view_is) old.3)
        where
          no_other : Knows (lone size first events) number old.1 → IsSeatedAt joined (rule.place number) number
          no_other (zero, number_is, same) = absurd (later (number_is ∙ add-zero first))
          no_other (suc k, number_is, same) = absurd (some-ne-none old.1 (sym same))

  pub joins : AgreesWithRun key row joined
  joins = record {
    run = rule.run;
    is_run = rule.is_run;
    shards = rule.shards;
    words = rule.words;
    place = place_joined;
    known = λ place view number list here knows. ⊎_elim
        (λ (t : (place ≡ other) × (nobody ≡ view)). let k = subst (λ (u : View). Knows u number list) (sym t.1) knows in absurd (some-ne-none list (sym k.2)))
        (λ (t : (place ≢ other) × (get_elem? kept place ≡ some view)). ⊎_elim
        (λ (u : (place ≡ id) × (both ≡ view)). both_known place view number list u.0 u.1 knows)
        (λ (u : (place ≢ id) × (get_elem? views place ≡ some view)). rest_known place view number list t.0 u.1 knows u.0)
        (at_set views id place both view t.1))
        (at_set kept other place nobody view here);
    seated = λ number within. seated_joined number (rule.seated number within);
    others = rule.others;
  }

pub join_allowed : (key size : Size) (id other first : ℕ) (v : View) (events : List Event) → first + 1 ≡ v.first
    → Joins (Rules key) id v other (lone size first events) (with_before v (lone size first events)) nobody
join_allowed key size id other first v events before s rule at apart there = search (arith, joins, at_set)
