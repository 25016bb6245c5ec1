-- Borůvka's rounds over links in the order of their keys, by labels of the vertices.
use Rattle.std.specs.Prelude.{◌≡◌, ◌≢◌, ℕ, ◌+◌, ◌<◌, ◌≤◌, ◌⊎◌, Bool, not, ◌==◌}
use Rattle.std.specs.Prelude.{List, [], ◌++◌, take, drop, length, slice_index, EachIndex, Contains}
use Rattle.links.specs.declared.links.Link.{Link}
use Rattle.links.specs.Link.{IsBelow}
use Rattle.links.specs.Walk.{Joins}
use Rattle.links.specs.Forest.{IsForestLink}
use Rattle.link_key.specs.declared.sequential.solver.Part.{Part}

-- both endpoints of the link have the same label
abbrev pub HasOneLabel : List ℕ → Link → Type 0
HasOneLabel labels l = slice_index labels l.low ≡ slice_index labels l.high

-- the endpoints of the link have different labels
abbrev pub is_apart : List ℕ → Link → Bool
is_apart labels l = not (slice_index labels l.low == slice_index labels l.high)

-- the link leaves label c: exactly one of its endpoints has that label
abbrev pub LeavesLabel : List ℕ → Link → ℕ → Type 0
LeavesLabel labels l c =
    ((slice_index labels l.low ≡ c) × (slice_index labels l.high ≢ c))
    ⊎ ((slice_index labels l.low ≢ c) × (slice_index labels l.high ≡ c))

-- l is the least of the links of the list that leave label c
pub record IsLeastOut (labels : List ℕ) (links : List Link) (c : ℕ) (l : Link) : Type 0 where
  pub member : Contains links l
  pub leaves : LeavesLabel labels l c
  pub least : (m : Link) → Contains links m → LeavesLabel labels m c → ¬ (IsBelow m l)

-- vertices with the same label are joined by the links
abbrev pub AreJoinedWhereOne : List ℕ → List Link → Type 0
AreJoinedWhereOne labels links =
    (u v : ℕ) → u < length labels → v < length labels → slice_index labels u ≡ slice_index labels v → Joins (Contains links) u v

-- no label is above the count, and the label of a vertex from 1 on isn't 0
pub record AreLabelsUpTo (count : ℕ) (labels : List ℕ) : Type 0 where
  pub in_range : EachIndex labels (λ v. slice_index labels v ≤ count)
  pub some : (v : ℕ) → 0 < v → v < length labels → 0 < slice_index labels v

-- each vertex up to n is labelled by itself
abbrev pub AreOwn : ℕ → List ℕ → Type 0
AreOwn n labels = (length labels ≡ n + 1) × EachIndex labels (λ v. slice_index labels v ≡ v)

-- What is true while the forest of a list is found. Each endpoint has a label. The links taken so far are in the
-- forest, and they join vertices with the same label. A link whose endpoints have different labels is in the rest or is
-- left for later. The endpoints of all links in the rest have different labels, and no link left for later is below a
-- link of the rest.
pub record IsStage (links rest later : List Link) (labels : List ℕ) (taken : List Link) : Type 0 where
  pub ends : (l : Link) → Contains links l → l.high < length labels
  pub joined : AreJoinedWhereOne labels taken
  pub forest : (l : Link) → Contains taken l → IsForestLink links l
  pub among : (l : Link) → Contains rest l → Contains links l
  pub apart : (l : Link) → Contains rest l → ¬ (HasOneLabel labels l)
  pub left : (l : Link) → Contains links l → HasOneLabel labels l ⊎ Contains rest l ⊎ Contains later l
  pub above : (l m : Link) → Contains rest l → Contains later m → ¬ (IsBelow m l)

-- the same, if the first links of a list are also taken, and the other links of the list are the rest
abbrev pub IsStageOf : List Link → ℕ → List Link → List ℕ → List Link → Type 0
IsStageOf links first list labels before = IsStage links (drop first list) [] labels (before ++ take first list)

-- these links of the rest of a stage are taken, and by the new labels no link of it is left
abbrev pub TakeRest : List Link → List ℕ → List Link → List ℕ → Type 0
TakeRest rest labels taken labels' =
    (all later before : List Link) → IsStage all rest later labels before
    → IsStage all [] later labels' (before ++ taken)

-- the first links of a list, from the rest of a stage, are taken, and by the new labels the list's other links are left
abbrev pub TakePart : List Link → List ℕ → ℕ → List Link → List ℕ → Type 0
TakePart rest labels first list labels' = (all before : List Link) → IsStage all rest [] labels before → IsStageOf all first list labels' before

-- the same for a part of a list
abbrev pub TakesPart : List Link → List ℕ → Part → List Link → List ℕ → Type 0
TakesPart rest labels part list labels' = TakePart rest labels part.taken (take part.left list) labels'
