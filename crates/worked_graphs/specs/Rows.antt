-- The rows in which example graphs are written.
use Rattle.std.specs.Prelude.{ℕ, ℤ, ◌≤◌}
use Rattle.limits.specs.declared.TheConstants.{MAX_VERTICES}
use Rattle.links.specs.Arc.{Arc}

-- two endpoints and a weight
abbrev pub Row : Type 0
Row = ℕ × ℕ × ℤ

-- the arc that a row describes
abbrev pub arc_of : Row → Arc
arc_of row = record { tail = row.0; head = row.1; weight = row.2 }

-- both endpoints are vertices of a graph with the vertices 1 to n, and n doesn't exceed its limit
abbrev pub AreEnds : ℕ → ℕ → ℕ → Type 0
AreEnds n u v = (n ≤ MAX_VERTICES) × (1 ≤ u) × (u ≤ n) × (1 ≤ v) × (v ≤ n)

abbrev pub IsArcUpTo : ℕ → Row → Type 0
IsArcUpTo n row = AreEnds n row.0 row.1
