-- Arcs that may be edges of a list, and the least index of each edge among them.
use Rattle.std.specs.Prelude.{◌≡◌, ℕ, ◌%◌, ◌<◌, ◌≤◌, ◌⊎◌, List, length, slice_index, Contains}
use Rattle.std.specs.Ordering.{int_cmp}
use Rattle.std.specs.Int.{bit_at}
use Rattle.std.specs.List.Sorted.{IsSortedByKey}
use Rattle.links.specs.Arc.{Arc}
use Rattle.links.specs.WideKey.{wide_key}
use Rattle.links.specs.declared.links.Link.{Link}
use Rattle.caller_forests.specs.declared.candidates.Candidate.{Candidate}
use Rattle.caller_forests.specs.Places.{IsLinkAt}

-- the lower endpoint has the mark for the remainder of the higher endpoint
abbrev pub IsMarked : List ℕ → Link → Type 0
IsMarked marks l = bit_at (slice_index marks l.low) (l.high % 8) ≡ 1

abbrev pub AreInKeyOrder : List Candidate → Type 0
AreInKeyOrder found = IsSortedByKey (λ (c : Candidate). wide_key c.link) int_cmp found

-- each candidate is the arc at its index
abbrev pub AreOfArcs : List Arc → List Candidate → Type 0
AreOfArcs arcs found = (c : Candidate) → Contains found c → (c.place < length arcs) × IsLinkAt arcs c.link c.place

-- some candidate is this edge and has this index
abbrev pub HasCandidate : List Candidate → Link → ℕ → Type 0
HasCandidate found l place = (c : Candidate) × Contains found c × (c.link ≡ l) × (c.place ≡ place)

-- `after` is the least of `before` and the indices of the edge's candidates
pub record IsLeastOf (found : List Candidate) (l : Link) (before after : ℕ) : Type 0 where
  pub no_more : after ≤ before
  pub least : (c : Candidate) → Contains found c → c.link ≡ l → after ≤ c.place
  pub one : (after ≡ before) ⊎ HasCandidate found l after
