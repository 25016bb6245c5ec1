-- What the lines of a file state.
use Rattle.std.specs.Prelude.{◌≡◌, ℕ, ◌⊎◌, List, [], ◌∷◌, codes}
use Rattle.links.specs.Arc.{Arc}
use Rattle.gr_text.specs.Fields.{AreFields, Writes, WritesSigned}

-- a problem line states the numbers of vertices and of arc lines, an arc line states an arc
pub data Statement : Type 0 where
  Problem : (vertices arcs : ℕ) → Statement
  ArcLine : Arc → Statement

-- fields that state nothing: no field, or a comment, whose first field begins with the letter c
abbrev pub AreSilent : List (List ℕ) → Type 0
AreSilent [] = Unit {0}
AreSilent ([] ∷ fields) = ⊥
AreSilent ((b ∷ bytes) ∷ fields) = b ≡ 99

-- the fields of a problem line are p, sp and two numbers; those of an arc line are a, two numbers and a signed one
abbrev pub FieldsSay : List (List ℕ) → Statement → Type 0
FieldsSay fields (Problem n m) = (f g : List ℕ) × (fields ≡ codes "p" ∷ codes "sp" ∷ f ∷ g ∷ []) × Writes f n × Writes g m
FieldsSay fields (ArcLine arc) = (f g h : List ℕ) × (fields ≡ codes "a" ∷ f ∷ g ∷ h ∷ [])
    × Writes f arc.tail × Writes g arc.head × WritesSigned h arc.weight

-- a line that states nothing
abbrev pub IsSilent : List ℕ → Type 0
IsSilent line = (fields : List (List ℕ)) × AreFields line fields × AreSilent fields

-- a line that makes this statement
abbrev pub Says : List ℕ → Statement → Type 0
Says line statement = (fields : List (List ℕ)) × AreFields line fields × FieldsSay fields statement

-- the lines make these statements, in this order, and no others
abbrev pub Say : List (List ℕ) → List Statement → Type 0
Say [] statements = statements ≡ []
Say (line ∷ lines) statements = (IsSilent line × Say lines statements)
    ⊎ ((first : Statement) × (others : List Statement) × Says line first × Say lines others × (statements ≡ first ∷ others))
