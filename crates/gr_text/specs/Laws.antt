-- What the definitions promise about every text.
use Rattle.std.specs.Prelude.{◌≡◌, ℕ, ◌≤◌, ◌⊎◌, List, length, Contains}
use Rattle.limits.specs.declared.TheConstants.{MAX_ARCS, MAX_VERTICES}
use Rattle.links.specs.Arc.{Arc}
use Rattle.links.specs.Link.{EndsUpTo, IsAscending}
use Rattle.links.specs.declared.links.Link.{Link}
use Rattle.links.specs.Forest.{IsForestOf}
use Rattle.links.specs.LinkSet.{HasNoCycle}
use Rattle.gr_text.specs.Graph.{Means, GraphValue, IsGraphOf}
use Rattle.gr_text.specs.ForestText.{forest_text}
use Rattle.gr_text.specs.Fault.{IsFirstFault}
use Rattle.gr_text.specs.declared.faults.GrKind.{GrKind}

-- a text describes at most one graph
abbrev pub MeansOneGraph : Type 0
MeansOneGraph = (text : List ℕ) (n m : ℕ) (arcs others : List Arc) → Means text n arcs → Means text m others → (n ≡ m) × (arcs ≡ others)

-- a text describes a graph, or has a first error
abbrev pub MeansOrFails : Type 0
MeansOrFails = (text : List ℕ) → ((n : ℕ) × (arcs : List Arc) × Means text n arcs) ⊎ ((number : ℕ) × (kind : GrKind) × IsFirstFault text number kind)

-- a text that describes a graph has no error
abbrev pub NeverBoth : Type 0
NeverBoth = (text : List ℕ) (n : ℕ) (arcs : List Arc) (number : ℕ) (kind : GrKind) → Means text n arcs → ¬ (IsFirstFault text number kind)

-- a text has at most one first error
abbrev pub HasOneFault : Type 0
HasOneFault = (text : List ℕ) (number other : ℕ) (kind another : GrKind) → IsFirstFault text number kind → IsFirstFault text other another
    → (number ≡ other) × (kind ≡ another)

-- the text of a forest describes exactly its edges, in their order
abbrev pub ForestTextMeansItsLinks : Type 0
ForestTextMeansItsLinks =
    (n : ℕ) (forest : List Link) → n ≤ MAX_VERTICES → EndsUpTo n forest → length forest ≤ MAX_ARCS
    → IsGraphOf (forest_text n forest) (record { vertices = n; links = forest })

-- so the text of ascending edges that close no cycle describes a graph whose forest they are
abbrev pub ForestTextGivesItself : Type 0
ForestTextGivesItself =
    (n : ℕ) (forest : List Link) → n ≤ MAX_VERTICES → EndsUpTo n forest → length forest ≤ MAX_ARCS → IsAscending forest → HasNoCycle (Contains forest)
    → (graph : GraphValue) (its : List Link) → IsGraphOf (forest_text n forest) graph → IsForestOf graph.links its
    → (graph.vertices ≡ n) × (its ≡ forest)
