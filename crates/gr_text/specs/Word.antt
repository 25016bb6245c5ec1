-- What is stored of a field while its bytes come, and of a line while its fields come.
use Rattle.std.specs.Prelude.{◌≡◌, ◌≢◌, ℕ, ℤ, pos, neg_ℤ, ◌-◌, ◌^◌, ◌⊎◌, List, [], ◌∷◌, ◌++◌, codes, min}
use Rattle.links.specs.Arc.{Arc}
use Rattle.gr_text.specs.Fields.{Writes, WritesSigned}
use Rattle.gr_text.specs.Statement.{Statement, Problem, ArcLine, AreSilent, FieldsSay, Says}
use Rattle.gr_text.specs.declared.words.Word.{Word}
use Rattle.gr_text.specs.declared.words.Word.TheVariants as word
use Rattle.gr_text.specs.declared.words.Signed.{Signed}
use Rattle.gr_text.specs.declared.words.Signed.TheVariants as signed
use Rattle.gr_text.specs.declared.words.LineFields.{LineFields}
use Rattle.gr_text.specs.declared.words.LineFields.TheVariants as line

-- the largest number that is stored as it is; any greater one is stored as this
abbrev pub cap : ℕ
cap = 2 ^ 64 - 1

abbrev pub IsCapped : ℕ → ℕ → Type 0
IsCapped kept n = kept ≡ min n cap

-- the same with or without a minus sign
abbrev pub IsCappedSigned : Signed → ℤ → Type 0
IsCappedSigned (signed.Plus kept) z = (n : ℕ) × (z ≡ pos n) × IsCapped kept n
IsCappedSigned (signed.Minus kept) z = (n : ℕ) × (z ≡ neg_ℤ (pos n)) × IsCapped kept n

-- a field that begins with the letter c
abbrev pub BeginsComment : List ℕ → Type 0
BeginsComment field = (others : List ℕ) × (field ≡ 99 ∷ others)

-- a field that is allowed somewhere in a valid line, or that begins a comment
abbrev pub IsToken : List ℕ → Type 0
IsToken field = (field ≡ codes "p") ⊎ (field ≡ codes "a") ⊎ (field ≡ codes "sp") ⊎ BeginsComment field ⊎ ((z : ℤ) × WritesSigned field z)

-- what `Word` says about the bytes of a field that have come
abbrev pub WordMeans : Word → List ℕ → Type 0
WordMeans word.Empty bytes = bytes ≡ []
WordMeans word.LetterP bytes = bytes ≡ codes "p"
WordMeans word.LetterA bytes = bytes ≡ codes "a"
WordMeans word.LetterS bytes = bytes ≡ codes "s"
WordMeans word.Sp bytes = bytes ≡ codes "sp"
WordMeans word.Comment bytes = BeginsComment bytes
WordMeans (word.Number kept) bytes = (n : ℕ) × Writes bytes n × IsCapped kept n
WordMeans word.Minus bytes = bytes ≡ codes "-"
WordMeans (word.Negative kept) bytes = (digits : List ℕ) × (n : ℕ) × (bytes ≡ 45 ∷ digits) × Writes digits n × IsCapped kept n
WordMeans word.Other bytes = (bytes ≢ []) × ((more : List ℕ) → ¬ (IsToken (bytes ++ more)))

-- a field that writes a number, stored as `kept`
abbrev pub KeepsNumber : ℕ → List ℕ → Type 0
KeepsNumber kept field = (n : ℕ) × Writes field n × IsCapped kept n

abbrev pub KeepsSigned : Signed → List ℕ → Type 0
KeepsSigned kept field = (z : ℤ) × WritesSigned field z × IsCappedSigned kept z

-- the line states a problem whose numbers are stored as these; an arc has these stored numbers; the line gives such an
-- arc
abbrev pub KeepsProblem : ℕ → ℕ → List ℕ → Type 0
KeepsProblem n m line = (k l : ℕ) × Says line (Problem k l) × IsCapped n k × IsCapped m l

abbrev pub AreKeptOf : ℕ → ℕ → Signed → Arc → Type 0
AreKeptOf u v w arc = IsCapped u arc.tail × IsCapped v arc.head × IsCappedSigned w arc.weight

abbrev pub KeepsArc : ℕ → ℕ → Signed → List ℕ → Type 0
KeepsArc u v w line = (arc : Arc) × Says line (ArcLine arc) × AreKeptOf u v w arc

-- fields that begin with `first`, whatever follows them, make no such statement
abbrev pub NeverSay : List ℕ → List (List ℕ) → (Statement → Type 0) → Type 0
NeverSay first fields P = ((others : List (List ℕ)) × (fields ≡ first ∷ others))
    × ((more : List (List ℕ)) (statement : Statement) → P statement → ¬ (FieldsSay (fields ++ more) statement))

abbrev pub IsProblem : Statement → Type 0
IsProblem (Problem n m) = Unit {0}
IsProblem (ArcLine arc) = ⊥

abbrev pub IsArcLine : Statement → Type 0
IsArcLine (Problem n m) = ⊥
IsArcLine (ArcLine arc) = Unit {0}

-- what `LineFields` says about the fields of a line that have come
abbrev pub LineMeans : LineFields → List (List ℕ) → Type 0
LineMeans line.Nothing fields = fields ≡ []
LineMeans line.Comment fields = (fields ≢ []) × AreSilent fields
LineMeans line.Unknown fields = (first : List ℕ) × (others : List (List ℕ)) × (fields ≡ first ∷ others)
    × (first ≢ codes "p") × (first ≢ codes "a") × ¬ (AreSilent (first ∷ []))
LineMeans line.Problem fields = fields ≡ codes "p" ∷ []
LineMeans line.ProblemSp fields = fields ≡ codes "p" ∷ codes "sp" ∷ []
LineMeans (line.ProblemVertices n) fields = (f : List ℕ) × (fields ≡ codes "p" ∷ codes "sp" ∷ f ∷ []) × KeepsNumber n f
LineMeans (line.ProblemWhole n m) fields = (f g : List ℕ) × (fields ≡ codes "p" ∷ codes "sp" ∷ f ∷ g ∷ []) × KeepsNumber n f × KeepsNumber m g
LineMeans line.BadProblem fields = NeverSay (codes "p") fields IsProblem
LineMeans line.Arc fields = fields ≡ codes "a" ∷ []
LineMeans (line.ArcTail u) fields = (f : List ℕ) × (fields ≡ codes "a" ∷ f ∷ []) × KeepsNumber u f
LineMeans (line.ArcEnds u v) fields = (f g : List ℕ) × (fields ≡ codes "a" ∷ f ∷ g ∷ []) × KeepsNumber u f × KeepsNumber v g
LineMeans (line.ArcWhole u v w) fields =
    (f g h : List ℕ) × (fields ≡ codes "a" ∷ f ∷ g ∷ h ∷ []) × KeepsNumber u f × KeepsNumber v g × KeepsSigned w h
LineMeans line.BadArc fields = NeverSay (codes "a") fields IsArcLine

-- after any whole fields stored as `old`, and one more stored as `kept`, `new` is what is stored of all
abbrev pub AddsField : LineFields → Word → LineFields → Type 0
AddsField old kept new =
    (fields : List (List ℕ)) (field : List ℕ) → field ≢ [] → LineMeans old fields → WordMeans kept field
    → LineMeans new (fields ++ field ∷ [])
