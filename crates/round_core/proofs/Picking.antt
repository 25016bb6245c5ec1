-- The links picked, each once: if two labels pick a link, the lesser gives it.
use Rattle.std.proofs.Common.{◌≡◌, ◌≢◌, ℕ, zero, suc, ◌+◌, ◌-◌, ◌<◌, ◌≤◌, ◌⊎◌, min, List, [], ◌∷◌, length, get_or, Some, None, ap, ◌∙◌, subst, inl, inr, arith}
use Rattle.std.specs.Prelude.{Option, AllPairs}
use Rattle.std.proofs.lemmas.List.{get_or_default}
use Rattle.links.specs.declared.links.Link.{Link}
use Rattle.links.specs.Labels.{label_of}
use Rattle.links.proofs.Keys.{link_dec}
use Rattle.round_theory.specs.Labelling.{IsVertex}
use Rattle.round_theory.specs.LinkSet.{LinkSet}
use Rattle.round_theory.specs.Offers.{IsLeastLeaving, IsPick}
use Rattle.round_theory.proofs.Leaving.{leaves_end}
use Rattle.round_core.specs.Picks.{pick_of, Picked, IsPickOf, ArePicks}
use Rattle.round_core.specs.Solver.{IsFirstPickedAt, ArePickedOnce}

-- an index that has a pick is one of the list
pub picked_within : (picks : List (Option Link)) (i : ℕ) (l : Link) → get_or picks i None ≡ Some l → i < length picks
picked_within [] i l here = absurd (cc)
picked_within (x ∷ picks) zero l here = omega arith
picked_within (x ∷ picks) (suc i) l here = let within = picked_within picks i l here in omega (arith, within)

pub picked_there : (picks : List (Option Link)) (i : ℕ) (l : Link) → get_or picks i None ≡ Some l → Picked picks l
picked_there picks i l here =
    let within = picked_within picks i l here in
    (i, within, get_or_default picks i (Some l) None within ∙ here)

pub place_of : (picks : List (Option Link)) (l : Link) → Picked picks l → (i : ℕ) × (get_or picks i None ≡ Some l)
place_of picks l (i, within, here) = (i, get_or_default picks i None (Some l) within ∙ here)

-- the pick at an index is the least link that leaves the label of that index
pub record IsLeastAt (labels : List ℕ) (S : LinkSet) (i : ℕ) (l : Link) : Type 0 where
  pub vertex : IsVertex (length labels) (i + 1)
  pub least : IsLeastLeaving labels S (i + 1) l

pub least_at : (labels : List ℕ) (S : LinkSet) (picks : List (Option Link)) (i : ℕ) (l : Link) → ArePicks labels S picks → get_or picks i None ≡ Some l → IsLeastAt labels S i l
least_at labels S picks i l are here =
    let within = picked_within picks i l here in
    let vertex : IsVertex (length labels) (i + 1) = (omega arith, omega (arith, within, are.each_vertex)) in
    let place : i + 1 - 1 ≡ i = omega arith in
    let pick : pick_of picks (i + 1) ≡ Some l = ap (λ k. get_or picks k None) place ∙ here in
    record { vertex = vertex; least = subst (IsPickOf labels S (i + 1)) pick (are.least (i + 1) vertex) }

pub picked_is_pick : (labels : List ℕ) (S : LinkSet) (picks : List (Option Link)) (l : Link) → ArePicks labels S picks → Picked picks l → IsPick labels S l
picked_is_pick labels S picks l are picked =
    let (i, here) = place_of picks l picked in
    (i + 1, (least_at labels S picks i l are here).least)

-- so the label of the index is that of one endpoint
end_at : (labels : List ℕ) (S : LinkSet) (picks : List (Option Link)) (i : ℕ) (l : Link) → ArePicks labels S picks
    → get_or picks i None ≡ Some l → (i + 1 ≡ label_of labels l.low) ⊎ (i + 1 ≡ label_of labels l.high)
end_at labels S picks i l are here = leaves_end labels l (i + 1) (least_at labels S picks i l are here).least.leaves

-- the lesser label of a link's endpoints, as an index
abbrev pub least_end : List ℕ → Link → ℕ
least_end labels l = min (label_of labels l.low) (label_of labels l.high) - 1

-- if it is the index, or doesn't pick the link, the index is the first that does
pub first_at : (labels : List ℕ) (S : LinkSet) (picks : List (Option Link)) (i : ℕ) (l : Link) → ArePicks labels S picks → get_or picks i None ≡ Some l
    → (least_end labels l ≡ i) ⊎ (get_or picks (least_end labels l) None ≢ Some l) → IsFirstPickedAt picks l i
first_at labels S picks i l are here test = record { here = here; first = first }
  where
    first : (k : ℕ) → k < i → get_or picks k None ≢ Some l
    first k lt there = elim test [
      | inl is ↦ absurd (before (label_of labels l.low) (label_of labels l.high) (end_at labels S picks k l are there) is)
      | inr other ↦ other
          (subst (λ j. get_or picks j None ≡ Some l) (lesser (label_of labels l.low) (label_of labels l.high) (end_at labels S picks k l are there) (end_at labels S picks i l are here)) there)
    ]
      where
        before : (a b : ℕ) → (k + 1 ≡ a) ⊎ (k + 1 ≡ b) → min a b - 1 ≡ i → ⊥
        before a b (inl at) is = omega (arith, lt, at, is)
        before a b (inr at) is = omega (arith, lt, at, is)

        lesser : (a b : ℕ) → (k + 1 ≡ a) ⊎ (k + 1 ≡ b) → (i + 1 ≡ a) ⊎ (i + 1 ≡ b) → k ≡ min a b - 1
        lesser a b (inl at) (inl at') = omega (arith, lt, at, at')
        lesser a b (inl at) (inr at') = omega (arith, lt, at, at')
        lesser a b (inr at) (inl at') = omega (arith, lt, at, at')
        lesser a b (inr at) (inr at') = omega (arith, lt, at, at')

-- a link that is picked has a first index at which it is
pub pick_dec : (x : Option Link) (l : Link) → (x ≡ Some l) ⊎ (x ≢ Some l)
pick_dec None l = inr (λ is. absurd (cc))
pick_dec (Some m) l = elim (link_dec m l) [ inl is ↦ inl (ap Some is) | inr other ↦ inr (λ is. let same : m ≡ l = cc in other same) ]

pub first_place : (picks : List (Option Link)) (i : ℕ) (l : Link) → get_or picks i None ≡ Some l → (j : ℕ) × (j ≤ i) × IsFirstPickedAt picks l j
first_place [] i l here = absurd (cc)
first_place (x ∷ picks) zero l here = (0, omega arith, record { here = here; first = λ k lt. absurd (omega (arith, lt)) })
first_place (x ∷ picks) (suc i) l here = elim (pick_dec x l) [
  | inl is ↦ (0, omega arith, record { here = is; first = λ k lt. absurd (omega (arith, lt)) })
  | inr other ↦ let (j, le, first) = first_place picks i l here in (suc j, omega (arith, le), record { here = first.here; first = later other j first })
]
  where
    later : x ≢ Some l → (j : ℕ) → IsFirstPickedAt picks l j → (k : ℕ) → k < suc j → get_or (x ∷ picks) k None ≢ Some l
    later other j first zero lt = other
    later other j first (suc k) lt = first.first k (omega (arith, lt))

-- a link has only one first index
pub each_once : (picks : List (Option Link)) (links : List Link) → ArePickedOnce picks links → AllPairs (λ l m. l ≢ m) links
each_once picks links are i j d lt within same =
    let (a, b, first, second, before) = are.in_order i j d lt within in
    second.first a before (first.here ∙ ap Some same)
