-- After valid lines, each line is valid or has a kind of error. So each text describes a graph or has a first error.
use Rattle.std.proofs.Common.{◌≡◌, ℕ, ℤ, ◌+◌, ◌⊎◌, inl, inr, List, [], ◌∷◌, ◌++◌, refl, sym, subst, arith, append_assoc, append-nil, length}
use Rattle.std.proofs.lemmas.Bool.Decides.{leb_tells}
use Rattle.std.proofs.lemmas.Int.{by_lt_z, ints}
use Rattle.limits.specs.declared.TheConstants.{MAX_ARCS, MAX_VERTICES, MAX_WEIGHT, MIN_WEIGHT}
use Rattle.links.specs.Arc.{Arc}
use Rattle.gr_text.specs.Lines.{with_last, AreLines}
use Rattle.gr_text.specs.Statement.{Problem, ArcLine}
use Rattle.gr_text.specs.Sort.{LineSort, Nothing, Makes, NoProblem, NoArc, Unknown, IsOfSort}
use Rattle.gr_text.specs.Graph.{HasEnds, IsWeight, AreLawfulLines, AreLawfulSoFar}
use Rattle.gr_text.specs.Fault.{SaidSoFar, Unsaid, Stated, HaveSaid, IsWrong, IsFaultAfter, IsFirstFaulty}
use Rattle.gr_text.specs.Laws.{MeansOrFails}
use Rattle.gr_text.specs.declared.faults.GrKind.{GrKind}
use Rattle.gr_text.specs.declared.faults.GrKind.TheVariants.{UnknownLine, NoProblemYet, SecondProblem, BadProblem, TooLarge}
use Rattle.gr_text.specs.declared.faults.GrKind.TheVariants.{BadArc, EndOutOfRange, WeightOutOfRange, TooManyArcs, MissingProblem, MissingArcs}
use Rattle.gr_text.proofs.OrNot.{both_or_not, within_or_not}
use Rattle.gr_text.proofs.Steps.{Say-silent, AreLawfulLines-silent, AreLawfulLines-problem, AreLawfulLines-arc}
use Rattle.gr_text.proofs.Cuts.{cut_of}
use Rattle.gr_text.proofs.Sorts.{sort_of}
use Rattle.gr_text.proofs.Faulty.{first_faulty_at}

-- whether an arc is one of the problem
ends_or_not : (n : ℕ) (arc : Arc) → HasEnds n arc ⊎ ¬ (HasEnds n arc)
ends_or_not n arc = search (arith, both_or_not, within_or_not)

weight_or_not : (w : ℤ) → IsWeight w ⊎ ¬ (IsWeight w)
weight_or_not w = search (arith, by_lt_z, ints)

-- what a line is after valid ones
abbrev Goes : List (List ℕ) → List ℕ → Type 0
Goes before line = AreLawfulSoFar (before ++ line ∷ []) ⊎ ((kind : GrKind) × IsFaultAfter before line kind)

fails : (before : List (List ℕ)) (line : List ℕ) (so_far : SaidSoFar) (sort : LineSort) (kind : GrKind) → HaveSaid before so_far → IsOfSort line sort → IsWrong sort so_far kind → Goes before line
fails before line so_far sort kind said of_sort wrong = inr (kind, record { so_far = so_far; sort = sort; said = said; of_sort = of_sort; wrong = wrong })

goes : (before : List (List ℕ)) (line : List ℕ) (sort : LineSort) (so_far : SaidSoFar) → HaveSaid before so_far → IsOfSort line sort → Goes before line
goes before line Nothing Unsaid said silent = inl (inl (Say-silent before line [] said silent))
goes before line Nothing (Stated n m arcs) said silent = inl (inr (n, m, arcs, AreLawfulLines-silent before line n m arcs said silent))
goes before line Unknown so_far said of_sort = fails before line so_far Unknown UnknownLine said of_sort refl
goes before line NoProblem Unsaid said of_sort = fails before line Unsaid NoProblem BadProblem said of_sort refl
goes before line NoProblem (Stated n m arcs) said of_sort = fails before line (Stated n m arcs) NoProblem SecondProblem said of_sort refl
goes before line NoArc Unsaid said of_sort = fails before line Unsaid NoArc NoProblemYet said of_sort refl
goes before line NoArc (Stated n m arcs) said of_sort = elim (leb_tells m (length arcs)) [
  | inl (test, full) ↦ fails before line (Stated n m arcs) NoArc TooManyArcs said of_sort (inl (omega (arith, said.no_more), refl))
  | inr (test, room) ↦ fails before line (Stated n m arcs) NoArc BadArc said of_sort (inr (room, refl))
]
goes before line (Makes (Problem k l)) Unsaid said says = elim (leb_tells k MAX_VERTICES) [
  | inr (test, over) ↦ fails before line Unsaid (Makes (Problem k l)) TooLarge said says (inl over, refl)
  | inl (test, vertices) ↦ elim (leb_tells l MAX_ARCS) [
    | inr (test', over) ↦ fails before line Unsaid (Makes (Problem k l)) TooLarge said says (inr over, refl)
    | inl (test', arcs) ↦ inl (inr (k, l, [], AreLawfulLines-problem before line k l said says vertices arcs))
  ]
]
goes before line (Makes (Problem k l)) (Stated n m arcs) said says = fails before line (Stated n m arcs) (Makes (Problem k l)) SecondProblem said says refl
goes before line (Makes (ArcLine arc)) Unsaid said says = fails before line Unsaid (Makes (ArcLine arc)) NoProblemYet said says refl
goes before line (Makes (ArcLine arc)) (Stated n m arcs) said says = elim (leb_tells m (length arcs)) [
  | inl (test, full) ↦ fails before line (Stated n m arcs) (Makes (ArcLine arc)) TooManyArcs said says (inl (omega (arith, said.no_more), refl))
  | inr (test, room) ↦ elim (ends_or_not n arc) [
    | inr out ↦ fails before line (Stated n m arcs) (Makes (ArcLine arc)) EndOutOfRange said says (inr (inl (room, out, refl)))
    | inl ends ↦ elim (weight_or_not arc.weight) [
      | inr out ↦ fails before line (Stated n m arcs) (Makes (ArcLine arc)) WeightOutOfRange said says (inr (inr (room, ends, out, refl)))
      | inl weight ↦ inl (inr (n, m, arcs ++ arc ∷ [], AreLawfulLines-arc before line n m arcs arc said says (ends, weight) room))
    ]
  ]
]

line_goes : (before : List (List ℕ)) (line : List ℕ) → AreLawfulSoFar before → Goes before line
line_goes before line (inl none) = let (sort, of_sort) = sort_of line in goes before line sort Unsaid none of_sort
line_goes before line (inr (n, m, arcs, known)) = let (sort, of_sort) = sort_of line in goes before line sort (Stated n m arcs) known of_sort

-- Lines after valid ones are valid, or have a first invalid one. By induction on these lines.
lines_go : (lines before : List (List ℕ)) → AreLawfulSoFar before → AreLawfulSoFar (before ++ lines) ⊎ ((number : ℕ) × (kind : GrKind) × IsFirstFaulty (before ++ lines) number kind)
lines_go [] before lawful = inl (subst AreLawfulSoFar (sym (append-nil before)) lawful)
lines_go (line ∷ lines) before lawful = elim (line_goes before line lawful) [
  | inl on ↦ elim (lines_go lines (before ++ line ∷ []) on) [
    | inl all ↦ inl (subst AreLawfulSoFar (append_assoc before (line ∷ []) lines) all)
    | inr (number, kind, first) ↦ inr (number, kind, subst (λ (xs : List (List ℕ)). IsFirstFaulty xs number kind) (append_assoc before (line ∷ []) lines) first)
  ]
  | inr (kind, fits) ↦ inr (length before + 1, kind, first_faulty_at before line lines (length before + 1) kind lawful refl fits)
]

pub means_or_fails : MeansOrFails
means_or_fails text =
    let (before, rest, cut) = cut_of text in
    let lines : List (List ℕ) = with_last before rest in
    let are : AreLines text lines = (before, rest, cut, refl) in
    elim (lines_go lines [] (inl refl)) [
      | inr (number, kind, first) ↦ inr (number, kind, (lines, are, inl first))
      | inl (inl none) ↦ inr (length lines + 1, MissingProblem, (lines, are, inr (none, refl)))
      | inl (inr (n, m, arcs, known)) ↦ elim (leb_tells m (length arcs)) [
        | inr (test, few) ↦ inr (length lines + 1, MissingArcs, (lines, are, inr ((n, m, arcs, known, few), refl)))
        | inl (test, enough) ↦ inl (
          n,
          arcs,
          (
            lines,
            are,
            (let all : m ≡ length arcs = omega (arith, known.no_more) in subst (λ (k : ℕ). AreLawfulLines lines n k arcs) all known),
          ),
        )
      ]
    ]
