-- A relation between all pairs of a list, from a comparison of each pair of neighbours.
use Rattle.std.proofs.Common.{◌≡◌, ℕ, zero, suc, ◌+◌, ◌-◌, ◌<◌, add-one, Bool, true, false, IsTrue, ◌↔◌, List, [], ◌∷◌, length, slice_index_or, refl, sym, ◌∙◌, subst, arith}
use Rattle.std.specs.List.{AllPairs, AllAdjacentBelow, IsAllAdjacentAnswer}
use mathlib.Core.Bool.{false≢true}

-- If a transitive relation holds between all neighbours, each element is related to all later ones.
all_pairs_from_neighbours : {X : Type 0} (R : X → X → Type 0) → ((x y z : X) → R x y → R y z → R x z) → (xs : List X) → AllAdjacentBelow R xs (length xs) → AllPairs R xs
all_pairs_from_neighbours R trans xs adjacent i j d lt in_range =
    let gap : j ≡ i + suc (j - (i + 1)) = omega arith in
    subst (λ p. R (slice_index_or xs i d) (slice_index_or xs p d)) (sym gap) (reach (j - (i + 1)) (omega arith))
  where
    reach : (n : ℕ) → i + suc n < length xs → R (slice_index_or xs i d) (slice_index_or xs (i + suc n) d)
    reach zero within = adjacent i d within
    reach (suc n) within = search (arith, slice_index_or, add-one, reach n (omega arith))

-- the result of comparing each pair of neighbours by a test that decides the relation
pub all_pairs_by_neighbours : {X : Type 0} (R : X → X → Type 0) → ((x y z : X) → R x y → R y z → R x z) → (test : X → X → Bool)
    → ((x y : X) → (test x y ≡ true) ↔ R x y) → (xs : List X) (r : Bool) → IsAllAdjacentAnswer (λ x y b. b ≡ test x y) xs r → IsTrue r ↔ AllPairs R xs
all_pairs_by_neighbours R trans test decides xs true adjacent = (λ _. all_pairs_from_neighbours R trans xs up, λ _. refl)
  where
    up : AllAdjacentBelow R xs (length xs)
    up k d lt = (decides (slice_index_or xs k d) (slice_index_or xs (k + 1) d)).0 (sym (adjacent k d lt))
all_pairs_by_neighbours {X} R trans test decides xs false (k, lt, fails) = (λ is. absurd (false≢true is), λ pairs. absurd (fails_there xs lt pairs fails))
  where
    fails_there : (xs : List X) → k + 1 < length xs → AllPairs R xs → ((d : X) → false ≡ test (slice_index_or xs k d) (slice_index_or xs (k + 1) d)) → ⊥
    fails_there [] lt pairs fails = omega arith
    fails_there (x ∷ xs) lt pairs fails = false≢true (fails x ∙ (decides (slice_index_or (x ∷ xs) k x) (slice_index_or (x ∷ xs) (k + 1) x)).1 (pairs k (k + 1) x (omega arith) lt))
