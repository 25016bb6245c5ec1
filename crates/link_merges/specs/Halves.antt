-- Links that are joined in halves: the clusters of their endpoints, and the cluster that each cluster is now part of.
use Rattle.std.specs.Prelude.{◌≡◌, ◌≢◌, ℕ, nat_lt, if◌then◌else◌, ◌+◌, ◌-◌, ◌<◌, ◌≤◌, min, max, List, length, Some, slice_get, slice_index_or}
use Rattle.links.specs.declared.links.Link.{Link}
use Rattle.link_merges.specs.Merges.{FirstJoin, IsClusterOf, IsMerge}
use Rattle.link_merges.specs.declared.merges.Merge.{Merge}

abbrev pub row_at : List Merge → ℕ → Merge
row_at rows j = slice_index_or rows j (record { first = 0; second = 0; size = 0 })

-- the cluster that cluster c is now part of; a cluster past the end of the list is only part of itself
abbrev pub now_of : List ℕ → ℕ → ℕ
now_of now c = slice_index_or now c c

-- each cluster is only part of itself
abbrev pub AreThemselves : List ℕ → Type 0
AreThemselves now = (c : ℕ) → now_of now c ≡ c

-- the clusters of each row are below `end`
abbrev pub AreBelow : ℕ → List Merge → Type 0
AreBelow end rows = (j : ℕ) → j < length rows → ((row_at rows j).first < end) × ((row_at rows j).second < end)

-- no row has cluster c
abbrev pub IsInNone : List Merge → ℕ → Type 0
IsInNone rows c = (j : ℕ) → j < length rows → (c ≢ (row_at rows j).first) × (c ≢ (row_at rows j).second)

-- each row has the clusters that its own are now part of
abbrev pub AreMovedBy : List ℕ → List Merge → List Merge → Type 0
AreMovedBy now rows rows' =
    (j : ℕ) → j < length rows
    → ((row_at rows' j).first ≡ now_of now (row_at rows j).first) × ((row_at rows' j).second ≡ now_of now (row_at rows j).second)

-- none of the first k links has its endpoints joined by the links before it
abbrev pub CloseNone : List Link → ℕ → Type 0
CloseNone links k = (i : ℕ) (l : Link) → i < k → slice_get links i ≡ Some l → ¬ (FirstJoin links i l.low l.high)

-- the row has the clusters of the link's endpoints, as the first k links join them
pub record HasEnds (n : ℕ) (links : List Link) (k : ℕ) (l : Link) (row : Merge) : Type 0 where
  pub low : IsClusterOf n links k l.low row.first
  pub high : IsClusterOf n links k l.high row.second

-- one row for each of the next links from index k on, with clusters that the first k links join; these links close no
-- cycle
pub record AreToJoin (n : ℕ) (links : List Link) (k : ℕ) (rows : List Merge) : Type 0 where
  pub within : k + length rows ≤ length links
  pub none : CloseNone links k
  pub each : (j : ℕ) (l : Link) → j < length rows → slice_get links (k + j) ≡ Some l → HasEnds n links k l (row_at rows j)

-- one row for each of the next links from index k on, with the clusters that the link joins; no link closes a cycle
pub record AreJoined (n : ℕ) (links : List Link) (k : ℕ) (rows : List Merge) : Type 0 where
  pub within : k + length rows ≤ length links
  pub none : CloseNone links (k + length rows)
  pub each : (j : ℕ) (l : Link) → j < length rows → slice_get links (k + j) ≡ Some l → HasEnds n links (k + j) l (row_at rows j)

-- `now` maps each cluster under the first k links to the cluster under the first m links that has its vertices
abbrev pub LeadsOn : ℕ → List Link → ℕ → ℕ → List ℕ → Type 0
LeadsOn n links k m now = (u c : ℕ) → IsClusterOf n links k u c → IsClusterOf n links m u (now_of now c)

-- how many points cluster c has, according to the row that made it
abbrev pub points_in : ℕ → List Merge → ℕ → ℕ
points_in n rows c = if nat_lt c n then 1 else (row_at rows (c - n)).size

-- the merge of row i: the lower cluster first, and the number of points of both clusters
abbrev pub merge_of : ℕ → List Merge → ℕ → Merge
merge_of n rows i =
    let row = row_at rows i in record {
      first = min row.first row.second;
      second = max row.first row.second;
      size = points_in n rows row.first + points_in n rows row.second;
    }

-- no link closes a cycle; rows before index i are merges, and each other row has the clusters of its link's endpoints
pub record AreMergesUpTo (n : ℕ) (links : List Link) (i : ℕ) (rows : List Merge) : Type 0 where
  pub as_many : length rows ≡ length links
  pub none : CloseNone links (length links)
  pub before : (j : ℕ) (l : Link) → j < i → slice_get links j ≡ Some l → IsMerge n links j l (row_at rows j)
  pub after : (j : ℕ) (l : Link) → i ≤ j → slice_get links j ≡ Some l → HasEnds n links j l (row_at rows j)

-- the two points that are the link's endpoints
abbrev pub points_of : Link → Merge
points_of l = record { first = l.low - 1; second = l.high - 1; size = 1 }
