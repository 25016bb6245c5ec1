-- The elements of a list that pass a test.
use Rattle.std.proofs.Common.{◌≡◌, Bool, true, false, cond, List, [], ◌∷◌, Contains, refl, sym, ap, ◌∙◌, subst, inl, inr, arith}
use mathlib.Core.Bool.{false≢true}
use Rattle.std.specs.Prelude.{filter}
use Rattle.links.proofs.Members.{contains_cases, contains_head, contains_none, contains_tail}

-- an element that passed the test is in the list and passes the test
pub kept_in : {X : Type 0} (p : X → Bool) (xs : List X) (x : X) → Contains (filter p xs) x → Contains xs x × (p x ≡ true)
kept_in p [] x x_in = absurd (contains_none x x_in)
kept_in {X} p (y ∷ xs) x x_in = search (arith, contains_cases, cond, contains_head, contains_tail, kept_in p xs x)

pub kept_if : {X : Type 0} (p : X → Bool) (xs : List X) (x : X) → Contains xs x → p x ≡ true → Contains (filter p xs) x
kept_if p [] x x_in passes = absurd (contains_none x x_in)
kept_if {X} p (y ∷ xs) x x_in passes = by_test (p y) refl (λ later. kept_if p xs x later passes)
  where
    by_test : (b : Bool) → p y ≡ b → (Contains xs x → Contains (filter p xs) x) → Contains (filter p (y ∷ xs)) x
    by_test true is later = subst (λ b. Contains (cond b (y ∷ filter p xs) (filter p xs)) x) (sym is) (elim (contains_cases y x xs x_in) [
      | inl same ↦ subst (Contains (y ∷ filter p xs)) (sym same) (contains_head y (filter p xs))
      | inr x_in' ↦ contains_tail y x (filter p xs) (later x_in')
    ])
    by_test false is later = subst (λ b. Contains (cond b (y ∷ filter p xs) (filter p xs)) x) (sym is) (elim (contains_cases y x xs x_in) [
      | inl same ↦ absurd (false≢true (sym is ∙ sym (ap p same) ∙ passes))
      | inr x_in' ↦ later x_in'
    ])
