-- The theorem of single linkage: cutting the merges of a graph's forest at a height gives the components of the graph.
use Rattle.std.specs.Prelude.{◌≡◌, ◌↔◌, ℕ, ◌+◌, ◌<◌, ◌≤◌, ℤ, List, Contains, Some, slice_get}
use Rattle.std.specs.Int.Signed.{◌≤ℤ◌}
use Rattle.links.specs.declared.links.Link.{Link}
use Rattle.links.specs.Walk.{Joins}
use Rattle.links.specs.Forest.{IsForestOf}
use Rattle.links.specs.LinkSet.{SameLinks}
use Rattle.links.specs.Thresholds.{LinksUpTo}
use Rattle.link_merges.specs.Merges.{IsInCluster}

-- the first k links of the list are those that weigh at most w
abbrev pub AreFirstUpTo : List Link → ℕ → ℤ → Type 0
AreFirstUpTo links k w = (i : ℕ) (l : Link) → slice_get links i ≡ Some l → (i < k) ↔ (l.weight ≤ℤ w)

-- ---- the law

-- The links of a graph's forest are taken in ascending order of weight, and links of equal weight in any order. The
-- first k of them are those up to weight w. After these k links, each vertex is in an existing cluster. That cluster
-- has exactly the vertices that all links of the graph up to weight w join with the vertex.
abbrev pub MergesCutAsTheGraph : Type 0
MergesCutAsTheGraph =
    (n : ℕ) (links forest taken : List Link) → IsForestOf links forest → SameLinks (Contains taken) (Contains forest)
    → (k : ℕ) (w : ℤ) → AreFirstUpTo taken k w
    → (u : ℕ) → 1 ≤ u → u ≤ n
    → (c : ℕ) × (c < n + k) × ((v : ℕ) → IsInCluster n taken c v ↔ Joins (LinksUpTo links w) u v)
