-- Links in the order of their keys, each once.
use Rattle.std.proofs.Common.{◌≡◌, ◌≢◌, ℕ, ◌+◌, ◌<◌, ◌⊎◌, true, false, List, length, get_or, refl, sym, ap, ◌∙◌, inl, inr, arith}
use Rattle.std.specs.Prelude.{AllPairs}
use Rattle.std.specs.List.{swap}
use Rattle.std.specs.List.Sorted.{IsPermutation, IsSorted}
use Rattle.std.specs.Ordering.{is_lt}
use Rattle.std.proofs.lemmas.Bool.{cases_eq, cases_lt}
use Rattle.std.proofs.lemmas.List.Edits.{length-swap, swapped_from_swap}
use Rattle.std.proofs.lemmas.List.Sorted.{IsPermutation-keeps}
use Rattle.links.specs.declared.links.Link.{Link}
use Rattle.links.specs.Link.{key_cmp, IsAscending}
use Rattle.links.proofs.Keys.{trichotomy, is_below, ascending_by_neighbours}

-- no link is at two indices
abbrev IsOnce : List Link → Type 0
IsOnce xs = (i j : ℕ) (d : Link) → i < length xs → j < length xs → get_or xs i d ≡ get_or xs j d → i ≡ j

once_from_pairs : (xs : List Link) → AllPairs (λ l m. l ≢ m) xs → IsOnce xs
once_from_pairs xs pairs i j d i_in j_in same = search (arith, cases_lt)

-- the index that a link had before two links were swapped
abbrev IsBack : ℕ → ℕ → ℕ → ℕ → Type 0
IsBack a b i k = ((i ≡ a) × (k ≡ b)) ⊎ ((i ≡ b) × (k ≡ a)) ⊎ ((i ≢ a) × (i ≢ b) × (k ≡ i))

record StoodAt (xs ys : List Link) (a b i : ℕ) (d : Link) : Type 0 where
  place : ℕ
  within : place < length xs
  reads : get_or ys i d ≡ get_or xs place d
  back : IsBack a b i place

stood_at : (xs ys : List Link) (a b i : ℕ) (d : Link) → a < length xs → b < length xs → ys ≡ swap xs a b → i < length xs → StoodAt xs ys a b i d
stood_at xs ys a b i d a_in b_in is i_in =
    let swapped = swapped_from_swap xs ys a b d a_in b_in is in
    elim (cases_eq i a) [
      | inl at_a ↦ record { place = b; within = b_in; reads = ap (λ k. get_or ys k d) at_a ∙ swapped.0; back = inl (at_a, refl) }
      | inr not_a ↦ elim (cases_eq i b) [
        | inl at_b ↦ record { place = a; within = a_in; reads = ap (λ k. get_or ys k d) at_b ∙ swapped.1; back = inr (inl (at_b, refl)) }
        | inr not_b ↦ record { place = i; within = i_in; reads = swapped.2 i not_a not_b; back = inr (inr (not_a, not_b, refl)) }
      ]
    ]

one_back : (a b i j k m : ℕ) → IsBack a b i k → IsBack a b j m → k ≡ m → i ≡ j
one_back a1 a2 a3 a4 a5 a6 a7 a8 a9 = search arith

once_swapped : (xs : List Link) (a b : ℕ) → a < length xs → b < length xs → IsOnce xs → IsOnce (swap xs a b)
once_swapped xs a b a_in b_in once i j d i_in j_in same =
    let long = length-swap xs a b in
    let at_i = stood_at xs (swap xs a b) a b i d a_in b_in refl (omega (arith, i_in, long)) in
    let at_j = stood_at xs (swap xs a b) a b j d a_in b_in refl (omega (arith, j_in, long)) in
    one_back a b i j at_i.place at_j.place at_i.back at_j.back (once at_i.place at_j.place d at_i.within at_j.within (sym at_i.reads ∙ same ∙ at_j.reads))

once_permuted : (xs ys : List Link) → IsPermutation xs ys → IsOnce xs → IsOnce ys
once_permuted xs ys moved once = IsPermutation-keeps xs IsOnce once (λ l i j i_in j_in is. once_swapped l i j i_in j_in is) ys moved

-- a sorted list of distinct links ascends
pub ascending_once : (xs ys : List Link) → AllPairs (λ l m. l ≢ m) xs → IsPermutation xs ys → IsSorted key_cmp ys → IsAscending ys
ascending_once xs ys pairs moved sorted = (ascending_by_neighbours ys true (λ k d lt. sym (below_next k d lt))).0 refl
  where
    once : IsOnce ys
    once = once_permuted xs ys moved (once_from_pairs xs pairs)

    below_next : (k : ℕ) (d : Link) → k + 1 < length ys → is_below (get_or ys k d) (get_or ys (k + 1) d) ≡ true
    below_next k d lt = search (arith, trichotomy, once)
