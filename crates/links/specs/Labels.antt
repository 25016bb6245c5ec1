-- Labels of the vertices of a graph.
use Rattle.std.specs.Prelude.{◌≡◌, ℕ, ◌-◌, ◌≤◌, List, length, map, slice_index}
use Rattle.limits.specs.declared.TheConstants.{MAX_VERTICES}

-- the label of vertex v: the labels are in the order of the vertices, which are numbered from 1
abbrev pub label_of : List ℕ → ℕ → ℕ
label_of labels v = slice_index labels (v - 1)

-- vertex v has a label from 1 to v, which is its own label
pub record IsLabelled (labels : List ℕ) (v : ℕ) : Type 0 where
  pub from_one : 1 ≤ label_of labels v
  pub at_most_itself : label_of labels v ≤ v
  pub own : label_of labels (label_of labels v) ≡ label_of labels v

-- labels of the vertices 1, 2, .. of a graph
pub record AreLabels (labels : List ℕ) : Type 0 where
  pub few_vertices : length labels ≤ MAX_VERTICES
  pub labelled : (v : ℕ) → 1 ≤ v → v ≤ length labels → IsLabelled labels v

-- each of the vertices 1 to n is labelled by itself
pub record AreApart (n : ℕ) (labels : List ℕ) : Type 0 where
  pub vertices : length labels ≡ n
  pub itself : (v : ℕ) → 1 ≤ v → v ≤ n → label_of labels v ≡ v

-- labels coarsen finer ones of the same vertices: vertices with the same finer label have the same label
pub record Coarsens (labels finer : List ℕ) : Type 0 where
  pub vertices : length labels ≡ length finer
  pub together : (u v : ℕ) → 1 ≤ u → u ≤ length finer → 1 ≤ v → v ≤ length finer
      → label_of finer u ≡ label_of finer v → label_of labels u ≡ label_of labels v

-- each label replaced by its number
abbrev pub renamed : List ℕ → List ℕ → List ℕ
renamed numbers labels = map (λ (c : ℕ). slice_index numbers c) labels
