-- The components that links join, and their least vertices.
use Rattle.std.specs.Prelude.{◌≡◌, ◌≢◌, ℕ, ◌<◌, ◌≤◌, List, length, slice_index, Contains}
use Rattle.links.specs.declared.links.Link.{Link}
use Rattle.links.specs.Labels.{label_of}
use Rattle.links.specs.Least.{AreDistinct}
use Rattle.links.specs.LinkSet.{LinkSet, HasNoCycle}
use Rattle.links.specs.Walk.{Joins}

-- a list of links that close no cycle, in which no link occurs twice
abbrev pub IsAcyclic : List Link → Type 0
IsAcyclic links = AreDistinct links × HasNoCycle (Contains links)

-- vertices have the same number exactly if the links join them
pub record AreComponents (S : LinkSet) (numbers : List ℕ) : Type 0 where
  pub joined : (u v : ℕ) → u < length numbers → v < length numbers → slice_index numbers u ≡ slice_index numbers v → Joins S u v
  pub alike : (u v : ℕ) → Joins S u v → slice_index numbers u ≡ slice_index numbers v

-- this is the least of the vertices that the links join with v
pub record IsLeastJoined (S : LinkSet) (v least : ℕ) : Type 0 where
  pub joined : Joins S v least
  pub at_most : (u : ℕ) → Joins S v u → least ≤ u

-- each of the vertices 1 to n is labelled by the least vertex of its component
pub record AreLeastVertices (n : ℕ) (S : LinkSet) (labels : List ℕ) : Type 0 where
  pub vertices : length labels ≡ n
  pub least : (v : ℕ) → 1 ≤ v → v ≤ n → IsLeastJoined S v (label_of labels v)

-- this is the first of the vertices 1, 2, .. that has the number
pub record IsFirstWith (numbers : List ℕ) (number first : ℕ) : Type 0 where
  pub from_one : 1 ≤ first
  pub in_range : first < length numbers
  pub has : slice_index numbers first ≡ number
  pub none_before : (u : ℕ) → 1 ≤ u → u < first → slice_index numbers u ≢ number

-- each vertex from 1 on is labelled by the first vertex that has its number
abbrev pub AreFirsts : List ℕ → List ℕ → Type 0
AreFirsts numbers labels =
    (v : ℕ) → 1 ≤ v → v < length numbers → IsFirstWith numbers (slice_index numbers v) (label_of labels v)
