-- The graph that a text describes.
use Rattle.std.specs.Prelude.{ℕ, ℤ, ◌≤ℤ◌, ◌≤◌, ◌⊎◌, List, [], ◌∷◌, map, length}
use Rattle.std.specs.List.{AllByRecursion}
use Rattle.limits.specs.declared.TheConstants.{MAX_ARCS, MAX_VERTICES, MAX_WEIGHT, MIN_WEIGHT}
use Rattle.links.specs.Arc.{Arc}
use Rattle.links.specs.Link.{AreLinksOf}
use Rattle.links.specs.declared.links.Link.{Link}
use Rattle.gr_text.specs.Lines.{AreLines}
use Rattle.gr_text.specs.Statement.{Problem, ArcLine, Say}

-- both endpoints of an arc are vertices
pub record HasEnds (n : ℕ) (arc : Arc) : Type 0 where
  pub tail_from_one : 1 ≤ arc.tail
  pub tail_in_range : arc.tail ≤ n
  pub head_from_one : 1 ≤ arc.head
  pub head_in_range : arc.head ≤ n

abbrev pub IsWeight : ℤ → Type 0
IsWeight w = (MIN_WEIGHT ≤ℤ w) × (w ≤ℤ MAX_WEIGHT)

abbrev pub IsArcOf : ℕ → Arc → Type 0
IsArcOf n arc = HasEnds n arc × IsWeight arc.weight

-- the lines are one problem line of n and m within the limits, and then these arc lines, at most m
pub record AreLawfulLines (lines : List (List ℕ)) (n m : ℕ) (arcs : List Arc) : Type 0 where
  pub say : Say lines (Problem n m ∷ map ArcLine arcs)
  pub vertices : n ≤ MAX_VERTICES
  pub arc_lines : m ≤ MAX_ARCS
  pub no_more : length arcs ≤ m
  pub each : AllByRecursion (IsArcOf n) arcs

-- the lines so far are valid: they state nothing, or are as above
abbrev pub AreLawfulSoFar : List (List ℕ) → Type 0
AreLawfulSoFar lines = Say lines [] ⊎ ((n m : ℕ) × (arcs : List Arc) × AreLawfulLines lines n m arcs)

-- the text describes the graph of n vertices and these arcs: its lines are valid, and there are as many arc lines as it
-- states
abbrev pub Means : List ℕ → ℕ → List Arc → Type 0
Means text n arcs = (lines : List (List ℕ)) × AreLines text lines × AreLawfulLines lines n (length arcs) arcs

-- the graph of a text: its vertices, and the edges of its arcs in the order of the file
pub record GraphValue : Type 0 where
  pub vertices : ℕ
  pub links : List Link

-- the graph with these edges instead of its own
abbrev pub with_links : List Link → GraphValue → GraphValue
with_links links graph = record { vertices = graph.vertices; links = links }

abbrev pub IsGraphOf : List ℕ → GraphValue → Type 0
IsGraphOf text graph = (arcs : List Arc) × Means text graph.vertices arcs × AreLinksOf arcs graph.links
