-- Arcs in the caller's memory, in three columns.
use Rattle.std.specs.Prelude.{◌≡◌, ℕ, ◌+◌, ◌-◌, ◌≤◌, ℤ, List, [], ◌∷◌, length, All}
use Rattle.limits.specs.declared.TheConstants.{MAX_ARCS, MAX_VERTICES}
use Rattle.links.specs.Arc.{Arc}
use Rattle.gr_text.specs.Graph.{HasEnds}

-- which of the vertices base, base + 1, .. it is, counted from 1; 0 if it is none of them
abbrev pub vertex_from : ℕ → ℕ → ℕ
vertex_from base v = v + 1 - base

-- the arcs of three columns, between vertices that are numbered from base on
abbrev pub arcs_in : ℕ → List ℕ → List ℕ → List ℤ → List Arc
arcs_in base (u ∷ tails) (v ∷ heads) (w ∷ weights) =
    record { tail = vertex_from base u; head = vertex_from base v; weight = w } ∷ arcs_in base tails heads weights
arcs_in base tails heads weights = []

-- the columns have the same length
abbrev pub AreColumns : List ℕ → List ℕ → List ℤ → Type 0
AreColumns tails heads weights = (length heads ≡ length tails) × (length weights ≡ length tails)

-- arcs that have a forest: there are not too many vertices or arcs, and every endpoint is a vertex
abbrev pub AreRightArcs : ℕ → List Arc → Type 0
AreRightArcs n arcs = (n ≤ MAX_VERTICES) × (length arcs ≤ MAX_ARCS) × All (HasEnds n) arcs
