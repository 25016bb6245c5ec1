-- The labels that a set of links gives the vertices 1 to n, and what links join over components that labels give.
use Rattle.std.specs.Prelude.{◌≡◌, ℕ, ◌≤◌, ◌⊎◌, List, [], ◌∷◌, length}
use Rattle.std.specs.List.{AllByRecursion}
use Rattle.links.specs.declared.links.Link.{Link}
use Rattle.links.specs.Labels.{label_of}
use Rattle.links.specs.Walk.{Joins}
use Rattle.round_theory.specs.LinkSet.{LinkSet}

-- v is one of the vertices 1 to n
abbrev pub IsVertex : ℕ → ℕ → Type 0
IsVertex n v = (1 ≤ v) × (v ≤ n)

-- u is the least of all vertices that the set joins with v
pub record IsLeastJoined (S : LinkSet) (v u : ℕ) : Type 0 where
  pub joined : Joins S v u
  pub least : (w : ℕ) → Joins S v w → u ≤ w

-- the labelling of the vertices 1 to n by a set: each vertex is labelled by the least vertex that the set joins with it
pub record IsLabelling (n : ℕ) (S : LinkSet) (labels : List ℕ) : Type 0 where
  pub each_vertex : length labels ≡ n
  pub least : (v : ℕ) → IsVertex n v → IsLeastJoined S v (label_of labels v)

-- a walk over links between components: each link begins in the component where the one before it ended
abbrev pub IsWalkOver : List ℕ → ℕ → List Link → ℕ → Type 0
IsWalkOver labels u [] v = label_of labels u ≡ label_of labels v
IsWalkOver labels u (l ∷ walk) v =
    ((label_of labels u ≡ label_of labels l.low) × IsWalkOver labels l.high walk v)
    ⊎ ((label_of labels u ≡ label_of labels l.high) × IsWalkOver labels l.low walk v)

-- the components that the labels give, together with the links of the set, join u and v
abbrev pub JoinsOver : List ℕ → LinkSet → ℕ → ℕ → Type 0
JoinsOver labels S u v = (walk : List Link) × AllByRecursion S walk × IsWalkOver labels u walk v

-- u is the least of the vertices 1 to n that the components and the set join with v
pub record IsLeastJoinedOver (n : ℕ) (labels : List ℕ) (S : LinkSet) (v u : ℕ) : Type 0 where
  pub vertex : IsVertex n u
  pub joined : JoinsOver labels S v u
  pub least : (w : ℕ) → IsVertex n w → JoinsOver labels S v w → u ≤ w

-- the new labels join the components of the old ones by the links of a set: each vertex gets the least vertex that the
-- old components and the set join with it
pub record IsRelabelling (n : ℕ) (old : List ℕ) (S : LinkSet) (new : List ℕ) : Type 0 where
  pub each_vertex : length new ≡ n
  pub least : (v : ℕ) → IsVertex n v → IsLeastJoinedOver n old S v (label_of new v)
