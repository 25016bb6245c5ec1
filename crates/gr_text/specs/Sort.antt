-- The sorts of lines.
use Rattle.std.specs.Prelude.{◌≡◌, ◌≢◌, ℕ, List, ◌∷◌, codes}
use Rattle.links.specs.Arc.{Arc}
use Rattle.gr_text.specs.Fields.{AreFields}
use Rattle.gr_text.specs.Statement.{Statement, Problem, ArcLine, AreSilent, FieldsSay}

-- A line states nothing, or it makes a statement (a problem or an arc). It may also begin like a problem line or an arc
-- line without being one, or begin in any other way.
pub data LineSort : Type 0 where
  Nothing : LineSort
  Makes : Statement → LineSort
  NoProblem : LineSort
  NoArc : LineSort
  Unknown : LineSort

-- the fields are those of a line of this sort
abbrev pub AreOfSort : List (List ℕ) → LineSort → Type 0
AreOfSort fields Nothing = AreSilent fields
AreOfSort fields (Makes statement) = FieldsSay fields statement
AreOfSort fields NoProblem = ((others : List (List ℕ)) × (fields ≡ codes "p" ∷ others)) × ((n m : ℕ) → ¬ (FieldsSay fields (Problem n m)))
AreOfSort fields NoArc = ((others : List (List ℕ)) × (fields ≡ codes "a" ∷ others)) × ((arc : Arc) → ¬ (FieldsSay fields (ArcLine arc)))
AreOfSort fields Unknown = ((first : List ℕ) × (others : List (List ℕ)) × (fields ≡ first ∷ others) × (first ≢ codes "p") × (first ≢ codes "a"))
    × ¬ (AreSilent fields)

-- the line is of this sort; each line has only one sort
abbrev pub IsOfSort : List ℕ → LineSort → Type 0
IsOfSort line sort = (fields : List (List ℕ)) × AreFields line fields × AreOfSort fields sort
