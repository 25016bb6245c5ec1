-- The first endpoint that isn't a vertex.
use Rattle.std.specs.Prelude.{ℕ, ◌+◌, ◌<◌, ◌≤◌, List, length, slice_index, slice_index_or}
use Rattle.gr_text.specs.Graph.{HasEnds}
use Rattle.caller_forests.specs.Links.{arc_of}
use Rattle.caller_forests.specs.declared.given.GivenLink.{GivenLink}

-- the first edge with an endpoint other than the vertices 1 to n is at this index; if there is none, it is the number
-- of edges
pub record IsFirstBadLink (n : ℕ) (given : List GivenLink) (index : ℕ) : Type 0 where
  pub in_range : index ≤ length given
  pub right_before : (k : ℕ) (d : GivenLink) → k < index → HasEnds n (arc_of (slice_index_or given k d))
  pub bad : (d : GivenLink) → index < length given → ¬ (HasEnds n (arc_of (slice_index_or given index d)))

-- one of the n vertices that are numbered from base on
abbrev pub IsVertexFrom : ℕ → ℕ → ℕ → Type 0
IsVertexFrom base n v = (base ≤ v) × (v < base + n)

-- the first of `ends` that isn't a vertex is at this index; if there is none, it is the length of `ends`
pub record IsFirstBadEnd (n base : ℕ) (ends : List ℕ) (index : ℕ) : Type 0 where
  pub in_range : index ≤ length ends
  pub right_before : (k : ℕ) → k < index → IsVertexFrom base n (slice_index ends k)
  pub bad : index < length ends → ¬ (IsVertexFrom base n (slice_index ends index))
