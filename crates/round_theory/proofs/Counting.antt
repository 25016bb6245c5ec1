-- How many vertices have a label.
use Rattle.std.proofs.Common.{◌≡◌, ◌≢◌, ℕ, zero, suc, ◌+◌, ◌<◌, ◌≤◌, ◌==◌, cond, List, [], ◌∷◌, length, get_or, refl, sym, ap, ◌∙◌, inl, inr, arith}
use Rattle.std.proofs.Common.{eq-eqb, ne_eqb}
use Rattle.std.proofs.lemmas.Bool.{cases_eq}

-- how many entries of the list are c
pub size_of : ℕ → List ℕ → ℕ
size_of c [] = 0
size_of c (x ∷ xs) = cond (x == c) (suc (size_of c xs)) (size_of c xs)

size-hit : (c x : ℕ) (xs : List ℕ) → x ≡ c → size_of c (x ∷ xs) ≡ suc (size_of c xs)
unfolding size_of
size-hit c x xs same = ap (λ b. cond b (suc (size_of c xs)) (size_of c xs)) (eq-eqb x c same)

size-miss : (c x : ℕ) (xs : List ℕ) → x ≢ c → size_of c (x ∷ xs) ≡ size_of c xs
unfolding size_of
size-miss c x xs other = ap (λ b. cond b (suc (size_of c xs)) (size_of c xs)) (ne_eqb x c other)

size-nil : (c : ℕ) → size_of c [] ≡ 0
unfolding size_of
size-nil c = refl

-- a label that is at an index counts at least once
pub size_one : (c : ℕ) (xs : List ℕ) (k : ℕ) → k < length xs → get_or xs k 0 ≡ c → 1 ≤ size_of c xs
size_one c [] k lt at = absurd (omega arith)
size_one c (x ∷ xs) zero lt at = omega (arith, size-hit c x xs at)
size_one c (x ∷ xs) (suc k) lt at = search (arith, cases_eq, size-hit, size-miss, size_one c xs k (omega arith) at)

-- two labels together count at most the length of the list
pub two_sizes : (c d : ℕ) (xs : List ℕ) → c ≢ d → size_of c xs + size_of d xs ≤ length xs
two_sizes c d [] other = omega (arith, size-nil c, size-nil d)
two_sizes c d (x ∷ xs) other = search (arith, cases_eq, size-hit, size-miss, two_sizes c d xs other)

size_grows : (e y : ℕ) (ys : List ℕ) → size_of e ys ≤ size_of e (y ∷ ys)
size_grows e y ys = search (arith, cases_eq, size-hit, size-miss)

-- If every entry with one of two labels gets the label e in a new list, e counts at least what the two counted
-- together.
pub sizes_add : (c d e : ℕ) (old new : List ℕ) → length old ≡ length new → c ≢ d → ((k : ℕ) → k < length old → get_or old k 0 ≡ c → get_or new k 0 ≡ e)
    → ((k : ℕ) → k < length old → get_or old k 0 ≡ d → get_or new k 0 ≡ e) → size_of c old + size_of d old ≤ size_of e new
sizes_add c d e [] new long other from_c from_d = omega (arith, size-nil c, size-nil d)
sizes_add c d e (x ∷ old) [] long other from_c from_d = absurd (omega arith)
sizes_add c d e (x ∷ old) (y ∷ new) long other from_c from_d =
    let rest : size_of c old + size_of d old ≤ size_of e new = sizes_add c d e old new (omega arith) other (λ k lt. from_c (suc k) (omega arith)) (λ k lt. from_d (suc k) (omega arith)) in
    elim (cases_eq x c) [
      | inl is_c ↦ omega (arith, rest, size-hit c x old is_c, size-miss d x old (λ is_d. other (sym is_c ∙ is_d)), size-hit e y new (from_c 0 (omega arith) is_c))
      | inr not_c ↦ elim (cases_eq x d) [
        | inl is_d ↦ omega (arith, rest, size-miss c x old not_c, size-hit d x old is_d, size-hit e y new (from_d 0 (omega arith) is_d))
        | inr not_d ↦ omega (arith, rest, size-miss c x old not_c, size-miss d x old not_d, size_grows e y new)
      ]
    ]
