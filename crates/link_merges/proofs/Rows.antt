-- The merges so far, with one more.
use Rattle.std.proofs.Common.{◌≡◌, ℕ, zero, suc, ◌⊎◌, List, [], ◌∷◌, ◌++◌, length, Some, refl, sym, ap, ◌∙◌, subst, inl, inr}
use Rattle.std.specs.Prelude.{slice_get}
use Rattle.std.proofs.lemmas.Option.{same_Some, none-some}
use Rattle.links.specs.declared.links.Link.{Link}
use Rattle.link_merges.specs.declared.merges.Merge.{Merge}
use Rattle.link_merges.specs.Merges.{IsMerge}

-- an element of a list with one element appended was in the list before, or is the appended one
pushed : {X : Type 0} (xs : List X) (y x : X) (j : ℕ) → slice_get (xs ++ y ∷ []) j ≡ Some x → (slice_get xs j ≡ Some x) ⊎ ((j ≡ length xs) × (y ≡ x))
pushed [] y x zero is = inr (refl, same_Some y x is)
pushed [] y x (suc j) is = absurd (none-some x is)
pushed (z ∷ xs) y x zero is = inl is
pushed (z ∷ xs) y x (suc j) is = elim (pushed xs y x j is) [ inl old ↦ inl old | inr new ↦ inr (ap suc new.0, new.1) ]

pub one_more : (n : ℕ) (links : List Link) (merges : List Merge) (merge : Merge) (i : ℕ) → length merges ≡ i
    → ((j : ℕ) (l : Link) (m : Merge) → slice_get links j ≡ Some l → slice_get merges j ≡ Some m → IsMerge n links j l m)
    → ((l : Link) → slice_get links i ≡ Some l → IsMerge n links i l merge)
    → (j : ℕ) (l : Link) (m : Merge) → slice_get links j ≡ Some l → slice_get (merges ++ merge ∷ []) j ≡ Some m → IsMerge n links j l m
one_more n links merges merge i len each new j l m link_at at = elim (pushed merges merge m j at) [
  | inl old ↦ each j l m link_at old
  | inr is ↦
      let at_i : j ≡ i = is.0 ∙ len in
      let here = new l (subst (λ k. slice_get links k ≡ Some l) at_i link_at) in
      subst (λ k. IsMerge n links k l m) (sym at_i) (subst (IsMerge n links i l) is.1 here)
]
