-- The open links that a round keeps while numbers are assigned: of the links seen so far, those whose labels have
-- different numbers.
use Rattle.std.proofs.Common.{◌≡◌, ℕ, ◌+◌, ◌<◌, ◌⊎◌, ◌==◌, not, Bool, true, false, cond, List, [], ◌∷◌, ◌++◌, map, take, set, length, get_or, sym, ap, ap₂, ◌∙◌, subst, inl, inr, arith}
use Rattle.std.specs.List.{filter}
use Rattle.std.proofs.lemmas.List.{same_lists, length-map, get_or-map, map-append, append-nil, append_assoc, take_more, take_more_set, take-set}
use mir.Val.{bool_byte}
use Rattle.std.proofs.lemmas.Bool.{cases_eq}
use Rattle.std.proofs.lemmas.Bool.Decides.{nat_tests}
use Rattle.std.proofs.lemmas.List.Elements.{filter-append, All-push}
use Rattle.link_key.specs.declared.sequential.rounds.Open.{Open}
use Rattle.link_key.specs.OpenLinks.{renumbered, is_open, HaveNumbers}

pub closed : (a b : ℕ) → a ≡ b → not (a == b) ≡ false
closed a b same = grind (arith, nat_tests)

apart : (a b : ℕ) → ¬ (a ≡ b) → not (a == b) ≡ true
apart a b other = grind (arith, nat_tests)

-- the counter grows by one exactly if the two numbers differ
pub counted : (a b n n' : ℕ) → n' ≡ n + bool_byte (not (a == b)) → ((n' ≡ n) × (not (a == b) ≡ false)) ⊎ ((n' ≡ n + 1) × (not (a == b) ≡ true))
counted a b n n' is = search (arith, cases_eq, nat_tests, closed, apart)

-- Every element is written after the elements kept so far. Only an element that passes the test is counted.
pub written_behind : {X : Type 0} (p : X → Bool) (before start now : List X) {i kept kept' : ℕ} (x : X) → i < length start → x ≡ get_or start i x → kept < length now
    → take kept now ≡ before ++ filter p (take i start) → ((kept' ≡ kept) × (p x ≡ false)) ⊎ ((kept' ≡ kept + 1) × (p x ≡ true)) → take kept' (set now kept x) ≡ before ++ filter p (take (i + 1) start)
written_behind {X} p before start now {i} {kept} {kept'} x i_in is kept_in so_far counted =
    elim counted [
      | inl (same, fails) ↦ ap (λ n. take n (set now kept x)) same ∙ take-set now kept x ∙ so_far ∙ ap (λ (xs : List X). before ++ xs)
          (sym (one_more ∙ ap (λ b. filter p (take i start) ++ cond b (x ∷ []) []) fails ∙ append-nil (filter p (take i start))))
      | inr (more, passes) ↦ ap (λ n. take n (set now kept x)) more ∙ take_more_set now kept x kept_in ∙ ap (λ xs. xs ++ x ∷ []) so_far ∙ append_assoc before
          (filter p (take i start)) (x ∷ []) ∙ ap (λ (xs : List X). before ++ xs) (sym (one_more ∙ ap (λ b. filter p (take i start) ++ cond b (x ∷ []) []) passes))
    ]
  where
    one_more : filter p (take (i + 1) start) ≡ filter p (take i start) ++ filter p (x ∷ [])
    one_more = ap (filter p) (take_more start i x i_in ∙ ap (λ y. take i start ++ y ∷ []) (sym is)) ∙ filter-append p (take i start) (x ∷ [])

-- the links seen so far whose labels have different numbers, with these numbers
abbrev pub kept_of : List ℕ → List Open → List Open
kept_of numbers seen = filter is_open (map (renumbered numbers) seen)

-- assigned numbers stay, so the kept links stay
pub kept_same : (numbers numbers' : List ℕ) (seen : List Open) → HaveNumbers numbers seen
    → ((c : ℕ) → 0 < get_or numbers c 0 → get_or numbers' c 0 ≡ get_or numbers c 0) → kept_of numbers' seen ≡ kept_of numbers seen
kept_same numbers numbers' seen given stays =
    ap (λ (xs : List Open). filter is_open xs)
    (same_lists (map (renumbered numbers') seen) (map (renumbered numbers) seen) (length-map seen (renumbered numbers') ∙ sym (length-map seen (renumbered numbers))) (λ k o lt.
    let lt' : k < length seen = subst (λ n. k < n) (length-map seen (renumbered numbers')) lt in
    get_or-map (renumbered numbers') seen k o o lt' ∙ one (get_or seen k o) (given k o lt') ∙ sym (get_or-map (renumbered numbers) seen k o o lt')))
  where
    one : (o : Open) → (0 < get_or numbers o.low 0) × (0 < get_or numbers o.high 0) → renumbered numbers' o ≡ renumbered numbers o
    one o had = ap₂ (λ (a b : ℕ). record { low = a; high = b; rank = o.rank }) (stays o.low had.0) (stays o.high had.1)

module _ (numbers : List ℕ) (start : List Open) {i : ℕ} (x : Open) (i_in : i < length start) (is : x ≡ get_or start i x) where
  -- the next link is seen
  one_more : kept_of numbers (take (i + 1) start) ≡ kept_of numbers (take i start) ++ kept_of numbers (x ∷ [])
  one_more =
      ap (kept_of numbers) (take_more start i x i_in ∙ ap (λ o. take i start ++ o ∷ []) (sym is))
      ∙ ap (λ (xs : List Open). filter is_open xs) (map-append (renumbered numbers) (take i start) (x ∷ []))
      ∙ filter-append is_open (map (renumbered numbers) (take i start)) (renumbered numbers x ∷ [])

  -- its labels have the same number: it isn't kept
  pub kept_closed : is_open (renumbered numbers x) ≡ false → kept_of numbers (take (i + 1) start) ≡ kept_of numbers (take i start)
  kept_closed shut = one_more ∙ ap (λ b. kept_of numbers (take i start) ++ cond b (renumbered numbers x ∷ []) []) shut ∙ append-nil (kept_of numbers (take i start))

  -- its labels have different numbers: it is kept, with these numbers
  kept_open : is_open (renumbered numbers x) ≡ true → kept_of numbers (take (i + 1) start) ≡ kept_of numbers (take i start) ++ renumbered numbers x ∷ []
  kept_open apart = one_more ∙ ap (λ b. kept_of numbers (take i start) ++ cond b (renumbered numbers x ∷ []) []) apart

  -- it is written after the kept links, and counted if it is kept
  pub kept_passed : {kept kept' : ℕ} (now : List Open) → kept < length now → take kept now ≡ kept_of numbers (take i start)
      → ((kept' ≡ kept) × (is_open (renumbered numbers x) ≡ false)) ⊎ ((kept' ≡ kept + 1) × (is_open (renumbered numbers x) ≡ true)) → take kept'
      (set now kept (renumbered numbers x)) ≡ kept_of numbers (take (i + 1) start)
  kept_passed a1 a2 a3 a4 = search (arith, set, take-set, kept_closed, take_more_set, kept_open, apart)

-- the next link whose labels have numbers
pub given_more : (numbers : List ℕ) (start : List Open) {i : ℕ} (x : Open) → i < length start → x ≡ get_or start i x
    → (0 < get_or numbers x.low 0) × (0 < get_or numbers x.high 0) → HaveNumbers numbers (take i start) → HaveNumbers numbers (take (i + 1) start)
given_more numbers start {i} x i_in is had given =
    subst (HaveNumbers numbers) (sym (take_more start i x i_in ∙ ap (λ o. take i start ++ o ∷ []) (sym is)))
    (All-push (λ (o : Open). (0 < get_or numbers o.low 0) × (0 < get_or numbers o.high 0)) (take i start) x given had)
