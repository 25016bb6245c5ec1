-- Walks over links, and what a set of links joins.
use Rattle.std.specs.Prelude.{◌≡◌, ℕ, ◌⊎◌, List, [], ◌∷◌}
use Rattle.std.specs.List.{AllByRecursion}
use Rattle.links.specs.declared.links.Link.{Link}

-- the links lead from u to v: each begins where the one before it ended, in either direction
abbrev pub IsWalk : ℕ → List Link → ℕ → Type 0
IsWalk u [] v = u ≡ v
IsWalk u (l ∷ walk) v = ((u ≡ l.low) × IsWalk l.high walk v) ⊎ ((u ≡ l.high) × IsWalk l.low walk v)

-- a set of links joins u and v if a walk over links of the set leads from u to v (an empty walk, if u is v)
abbrev pub Joins : (Link → Type 0) → ℕ → ℕ → Type 0
Joins S u v = (walk : List Link) × AllByRecursion S walk × IsWalk u walk v
