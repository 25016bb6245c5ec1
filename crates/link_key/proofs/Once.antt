-- Lists of links without repeats, in any order.
use Rattle.std.proofs.Common.{◌≢◌, ℕ, ◌<◌, List, length, get_or, refl, sym, ap, ◌∙◌, subst, inl, inr, arith}
use Rattle.std.specs.List.{swap}
use Rattle.std.specs.List.Sorted.{IsPermutation}
use Rattle.std.proofs.lemmas.Bool.{cases_eq, cases_order}
use Rattle.std.proofs.lemmas.List.Edits.{length-swap, swapped_from_swap}
use Rattle.std.proofs.lemmas.List.Sorted.{IsPermutation-keeps}
use Rattle.links.specs.declared.links.Link.{Link}
use Rattle.links.specs.Link.{IsBelow, IsAscending}
use Rattle.links.specs.Least.{AreDistinct}
use Rattle.links.proofs.Keys.{below_irrefl}

pub ascending_distinct : (links : List Link) → IsAscending links → AreDistinct links
ascending_distinct links up i j d lt j_in same = below_irrefl (get_or links j d) (subst (λ (l : Link). IsBelow l (get_or links j d)) same (up i j d lt j_in))

-- links at different indices are different
apart : (links : List Link) → AreDistinct links → (i j : ℕ) (d : Link) → i ≢ j → i < length links → j < length links → get_or links i d ≢ get_or links j d
apart links distinct i j d differ i_in j_in same = search (arith, cases_order)

swapped : (links : List Link) (a b : ℕ) → a < length links → b < length links → AreDistinct links → AreDistinct (swap links a b)
swapped links a b a_in b_in distinct i j d lt j_in same =
    let at = swapped_from_swap links (swap links a b) a b d a_in b_in refl in
    let long = length-swap links a b in
    let i_in' : i < length links = omega (arith, lt, j_in, long) in
    let j_in' : j < length links = omega (arith, j_in, long) in
    elim (cases_eq i a) [
      | inl i_a ↦ elim (cases_eq j b) [
        | inl j_b ↦ apart links distinct b a d (λ e. omega (arith, e, i_a, j_b, lt)) b_in a_in
            (sym at.0 ∙ ap (λ k. get_or (swap links a b) k d) (sym i_a) ∙ same ∙ ap (λ k. get_or (swap links a b) k d) j_b ∙ at.1)
        | inr j_other ↦ apart links distinct b j d (λ e. j_other (sym e)) b_in j_in'
            (sym at.0 ∙ ap (λ k. get_or (swap links a b) k d) (sym i_a) ∙ same ∙ at.2 j (λ e. omega (arith, e, i_a, lt)) j_other)
      ]
      | inr i_not_a ↦ elim (cases_eq i b) [
        | inl i_b ↦ elim (cases_eq j a) [
          | inl j_a ↦ apart links distinct a b d (λ e. omega (arith, e, i_b, j_a, lt)) a_in b_in
              (sym at.1 ∙ ap (λ k. get_or (swap links a b) k d) (sym i_b) ∙ same ∙ ap (λ k. get_or (swap links a b) k d) j_a ∙ at.0)
          | inr j_other ↦ apart links distinct a j d (λ e. j_other (sym e)) a_in j_in'
              (sym at.1 ∙ ap (λ k. get_or (swap links a b) k d) (sym i_b) ∙ same ∙ at.2 j j_other (λ e. omega (arith, e, i_b, lt)))
        ]
        | inr i_not_b ↦ elim (cases_eq j a) [
          | inl j_a ↦ apart links distinct i b d i_not_b i_in' b_in (sym (at.2 i i_not_a i_not_b) ∙ same ∙ ap (λ k. get_or (swap links a b) k d) j_a ∙ at.0)
          | inr j_not_a ↦ elim (cases_eq j b) [
            | inl j_b ↦ apart links distinct i a d i_not_a i_in' a_in (sym (at.2 i i_not_a i_not_b) ∙ same ∙ ap (λ k. get_or (swap links a b) k d) j_b ∙ at.1)
            | inr j_not_b ↦ distinct i j d lt j_in' (sym (at.2 i i_not_a i_not_b) ∙ same ∙ at.2 j j_not_a j_not_b)
          ]
        ]
      ]
    ]

pub distinct_permuted : (links others : List Link) → IsPermutation links others → AreDistinct links → AreDistinct others
distinct_permuted links others moves distinct = IsPermutation-keeps links AreDistinct distinct (λ l i j i_in j_in is. swapped l i j i_in j_in is) others moves
