-- Clusters that links join two at a time, beginning with single points.
use Rattle.std.specs.Prelude.{◌≡◌, ◌≢◌, ◌↔◌, ◌⊎◌, ℕ, ◌+◌, ◌<◌, List, length, take, AllPairs, Contains, Some, slice_get}
use Rattle.links.specs.declared.links.Link.{Link}
use Rattle.links.specs.Link.{EndsUpTo}
use Rattle.links.specs.Walk.{Joins}
use Rattle.link_key.specs.Components.{IsAcyclic}
use Rattle.link_merges.specs.declared.merges.Merge.{Merge}

-- the first k links join u and v
abbrev pub FirstJoin : List Link → ℕ → ℕ → ℕ → Type 0
FirstJoin links k u v = Joins (Contains (take k links)) u v

-- Vertex v is in cluster c of n points. A cluster c below n is the single vertex c + 1. Cluster n + i has the vertices
-- that the first i + 1 links (up to and including link i) join with an endpoint of link i.
abbrev pub IsInCluster : ℕ → List Link → ℕ → ℕ → Type 0
IsInCluster n links c v =
    ((c < n) × (v ≡ c + 1))
    ⊎ ((i : ℕ) × (l : Link) × (c ≡ n + i) × (slice_get links i ≡ Some l) × FirstJoin links (i + 1) l.low v)

-- cluster c exists after the first k links are taken, and is the component of vertex u under them
pub record IsClusterOf (n : ℕ) (links : List Link) (k u c : ℕ) : Type 0 where
  pub there : c < n + k
  pub same : (v : ℕ) → IsInCluster n links c v ↔ FirstJoin links k u v

-- exactly `size` numbers have the property
pub record HasSize (P : ℕ → Type 0) (size : ℕ) : Type 0 where
  pub numbers : List ℕ
  pub distinct : AllPairs (λ u v. u ≢ v) numbers
  pub exact : (v : ℕ) → Contains numbers v ↔ P v
  pub counted : length numbers ≡ size

-- Link l at index i joins the two clusters of the merge. Under the links before it, one of the clusters is the
-- component of one of its endpoints, and the other that of its other endpoint. The cluster n + i that they become has
-- `merge.size` vertices.
pub record IsMerge (n : ℕ) (links : List Link) (i : ℕ) (l : Link) (merge : Merge) : Type 0 where
  pub ascending : merge.first < merge.second
  pub ends :
      (IsClusterOf n links i l.low merge.first × IsClusterOf n links i l.high merge.second)
      ⊎ (IsClusterOf n links i l.high merge.first × IsClusterOf n links i l.low merge.second)
  pub size : HasSize (IsInCluster n links (n + i)) merge.size

-- a merge for each link, in the order of the links
pub record AreMerges (n : ℕ) (links : List Link) (merges : List Merge) : Type 0 where
  pub as_many : length merges ≡ length links
  pub each : (i : ℕ) (l : Link) (merge : Merge) → slice_get links i ≡ Some l → slice_get merges i ≡ Some merge → IsMerge n links i l merge

-- the cluster that link i makes has exactly the vertices of its merge's two clusters, which have none in common
pub record IsUnion (n : ℕ) (links : List Link) (i : ℕ) (merge : Merge) : Type 0 where
  pub apart : (v : ℕ) → IsInCluster n links merge.first v → ¬ (IsInCluster n links merge.second v)
  pub both : (v : ℕ) → IsInCluster n links (n + i) v ↔ (IsInCluster n links merge.first v ⊎ IsInCluster n links merge.second v)
  pub sizes :
      (a b : ℕ) → HasSize (IsInCluster n links merge.first) a → HasSize (IsInCluster n links merge.second) b → merge.size ≡ a + b

-- ---- the laws

-- links between n points that close no cycle have a list of merges
abbrev pub LinksHaveMerges : Type 0
LinksHaveMerges = (n : ℕ) (links : List Link) → EndsUpTo n links → IsAcyclic links → (merges : List Merge) × AreMerges n links merges

-- links that close no cycle have only one list of merges
abbrev pub OneListOfMerges : Type 0
OneListOfMerges =
    (n : ℕ) (links : List Link) (merges others : List Merge) → IsAcyclic links
    → AreMerges n links merges → AreMerges n links others → merges ≡ others

-- each merge joins its two clusters into one, whose size is the sum of theirs
abbrev pub MergesUnite : Type 0
MergesUnite =
    (n : ℕ) (links : List Link) (merges : List Merge) → IsAcyclic links → AreMerges n links merges
    → (i : ℕ) (merge : Merge) → slice_get merges i ≡ Some merge → IsUnion n links i merge
