-- The first error of a text.
use Rattle.std.specs.Prelude.{◌≡◌, ℕ, ◌+◌, ◌<◌, ◌⊎◌, List, [], ◌∷◌, ◌++◌, length}
use Rattle.limits.specs.declared.TheConstants.{MAX_ARCS, MAX_VERTICES}
use Rattle.links.specs.Arc.{Arc}
use Rattle.gr_text.specs.Lines.{AreLines, EndsLines}
use Rattle.gr_text.specs.Statement.{Problem, ArcLine, Say}
use Rattle.gr_text.specs.Sort.{LineSort, Nothing, Makes, NoProblem, NoArc, Unknown, IsOfSort}
use Rattle.gr_text.specs.Graph.{HasEnds, IsWeight, AreLawfulLines, AreLawfulSoFar}
use Rattle.gr_text.specs.declared.faults.GrKind.{GrKind}
use Rattle.gr_text.specs.declared.faults.GrKind.TheVariants.{UnknownLine, NoProblemYet, SecondProblem, BadProblem, TooLarge, BadArc, EndOutOfRange, WeightOutOfRange, TooManyArcs, MissingProblem, MissingArcs}

-- what valid lines state: nothing, or a problem of n and m and these arcs
pub data SaidSoFar : Type 0 where
  Unsaid : SaidSoFar
  Stated : (n m : ℕ) → List Arc → SaidSoFar

abbrev pub HaveSaid : List (List ℕ) → SaidSoFar → Type 0
HaveSaid lines Unsaid = Say lines []
HaveSaid lines (Stated n m arcs) = AreLawfulLines lines n m arcs

-- what is wrong with a line of this sort after lines that state this
abbrev pub IsWrong : LineSort → SaidSoFar → GrKind → Type 0
IsWrong Nothing so_far kind = ⊥
IsWrong Unknown so_far kind = kind ≡ UnknownLine
IsWrong NoProblem Unsaid kind = kind ≡ BadProblem
IsWrong NoProblem (Stated n m arcs) kind = kind ≡ SecondProblem
IsWrong NoArc Unsaid kind = kind ≡ NoProblemYet
IsWrong NoArc (Stated n m arcs) kind = ((length arcs ≡ m) × (kind ≡ TooManyArcs)) ⊎ ((length arcs < m) × (kind ≡ BadArc))
IsWrong (Makes (Problem k l)) Unsaid kind = ((MAX_VERTICES < k) ⊎ (MAX_ARCS < l)) × (kind ≡ TooLarge)
IsWrong (Makes (Problem k l)) (Stated n m arcs) kind = kind ≡ SecondProblem
IsWrong (Makes (ArcLine arc)) Unsaid kind = kind ≡ NoProblemYet
IsWrong (Makes (ArcLine arc)) (Stated n m arcs) kind = ((length arcs ≡ m) × (kind ≡ TooManyArcs))
    ⊎ ((length arcs < m) × ¬ (HasEnds n arc) × (kind ≡ EndOutOfRange))
    ⊎ ((length arcs < m) × HasEnds n arc × ¬ (IsWeight arc.weight) × (kind ≡ WeightOutOfRange))

-- what is wrong with an arc of a graph of n vertices
abbrev pub IsWrongArc : ℕ → Arc → GrKind → Type 0
IsWrongArc n arc kind = (¬ (HasEnds n arc) × (kind ≡ EndOutOfRange)) ⊎ (HasEnds n arc × ¬ (IsWeight arc.weight) × (kind ≡ WeightOutOfRange))

-- the kind of a line's error, given its sort and what the lines before it state
pub record IsFaultAfter (before : List (List ℕ)) (line : List ℕ) (kind : GrKind) : Type 0 where
  pub so_far : SaidSoFar
  pub sort : LineSort
  pub said : HaveSaid before so_far
  pub of_sort : IsOfSort line sort
  pub wrong : IsWrong sort so_far kind

-- the first invalid line of these: the lines before it are valid, and together with it they aren't
pub record IsFirstFaulty (lines : List (List ℕ)) (number : ℕ) (kind : GrKind) : Type 0 where
  pub before : List (List ℕ)
  pub line : List ℕ
  pub after : List (List ℕ)
  pub parted : lines ≡ before ++ line ∷ after
  pub counted : number ≡ length before + 1
  pub lawful : AreLawfulSoFar before
  pub faulty : ¬ (AreLawfulSoFar (before ++ line ∷ []))
  pub kind_fits : IsFaultAfter before line kind

-- what is missing after valid lines
abbrev pub Lacks : List (List ℕ) → GrKind → Type 0
Lacks lines MissingProblem = Say lines []
Lacks lines MissingArcs = (n m : ℕ) × (arcs : List Arc) × AreLawfulLines lines n m arcs × (length arcs < m)
Lacks lines kind = ⊥

-- the first error of a text: that of its first invalid line, or what is missing at its end
abbrev pub IsFirstFault : List ℕ → ℕ → GrKind → Type 0
IsFirstFault text number kind = (lines : List (List ℕ)) × AreLines text lines
    × (IsFirstFaulty lines number kind ⊎ (Lacks lines kind × (number ≡ length lines + 1)))

-- the first invalid line among those that a line feed ends
abbrev pub IsEndedFault : List ℕ → ℕ → GrKind → Type 0
IsEndedFault text number kind = (lines : List (List ℕ)) × (rest : List ℕ) × EndsLines text lines rest × IsFirstFaulty lines number kind

-- the lines that a line feed ends are valid
abbrev pub HasLawfulLines : List ℕ → Type 0
HasLawfulLines text = (lines : List (List ℕ)) × (rest : List ℕ) × EndsLines text lines rest × AreLawfulSoFar lines
