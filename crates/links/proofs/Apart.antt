-- Labels of vertices.
use Rattle.std.proofs.Common.{◌≡◌, ℕ, ◌+◌, ◌-◌, ◌*◌, ◌/◌, ◌<◌, ◌≤◌, ◌^◌, List, length, take, drop, get_or, inl, inr, sym, ap, ◌∙◌, subst, arith}
use Rattle.std.proofs.lemmas.Bool.{cases_lt}
use Rattle.std.proofs.lemmas.List.{get_or-take, get_or-drop, length-take, length-drop}
use Rattle.links.specs.Labels.{label_of, IsLabelled, AreLabels, AreApart}

-- a list that counts up from 1 labels each vertex with itself
pub apart_from_places : (n : ℕ) (labels : List ℕ) → length labels ≡ n → ((k : ℕ) → k < n → get_or labels k 0 ≡ k + 1) → AreApart n labels
apart_from_places n labels len counts = search arith

-- if each vertex is labelled with itself, these are valid labels
pub labels_from_apart : (n : ℕ) (labels : List ℕ) → n ≤ 2 ^ 26 → AreApart n labels → AreLabels labels
labels_from_apart n labels few apart = search arith

-- labels that are their own vertices, followed by another 256 such labels
pub own_more : (labels : List ℕ) (i : ℕ) → i < length labels / 256 → ((v : ℕ) → 1 ≤ v → v ≤ i * 256 → label_of labels v ≡ v)
    → ((k : ℕ) → k < length (take (i * 256 + 256 - i * 256) (drop (i * 256) labels)) → get_or (take (i * 256 + 256 - i * 256) (drop (i * 256) labels)) k 0 ≡ i * 256 + k + 1)
    → (v : ℕ) → 1 ≤ v → v ≤ (i + 1) * 256 → label_of labels v ≡ v
own_more labels i more before piece v from_one to_end = elim (cases_lt (i * 256) v) [
  | inl behind ↦
      let k = v - 1 - i * 256 in
      let len = length-take (i * 256 + 256 - i * 256) (drop (i * 256) labels) in
      let rest = length-drop (i * 256) labels in
      let there = get_or-take (i * 256 + 256 - i * 256) (drop (i * 256) labels) k 0 (omega arith) in
      let here = get_or-drop (i * 256) labels k 0 in
      let place : i * 256 + k ≡ v - 1 = omega arith in
      ap (λ (p : ℕ). get_or labels p 0) (sym place) ∙ sym here ∙ sym there ∙ piece k (omega (arith, len, rest)) ∙ omega arith
  | inr among ↦ before v from_one (omega arith)
]
