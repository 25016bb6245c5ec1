-- What the last of valid lines is, and that a line with an error isn't one.
use Rattle.std.proofs.Common.{◌≡◌, ℕ, ◌+◌, ◌<◌, ◌≤◌, ◌⊎◌, inl, inr, List, [], ◌∷◌, ◌++◌, refl, ap, sym, ◌∙◌, subst, arith, map, length}
use Rattle.std.specs.List.{AllByRecursion}
use Rattle.std.proofs.lemmas.List.{length_push}
use Rattle.limits.specs.declared.TheConstants.{MAX_ARCS, MAX_VERTICES}
use Rattle.links.specs.Arc.{Arc}
use Rattle.gr_text.specs.Statement.{Statement, Problem, ArcLine, IsSilent, Says, Say}
use Rattle.gr_text.specs.Sort.{LineSort, Nothing, Makes, IsOfSort}
use Rattle.gr_text.specs.Graph.{IsArcOf, AreLawfulLines, AreLawfulSoFar}
use Rattle.gr_text.specs.Fault.{SaidSoFar, Unsaid, Stated, HaveSaid, IsWrong, IsFaultAfter, IsFirstFaulty}
use Rattle.gr_text.specs.declared.faults.GrKind.{GrKind}
use Rattle.gr_text.proofs.Alls.{All-parts}
use Rattle.gr_text.proofs.Steps.{AreLawfulLines-like}
use Rattle.gr_text.proofs.Sorts.{IsOfSort-unique}
use Rattle.gr_text.proofs.Texts.{said_unique}

-- what the last of some lines adds to what the others state
Say-split : (lines : List (List ℕ)) (line : List ℕ) (ss : List Statement) → Say (lines ++ line ∷ []) ss
    → (before : List Statement) × Say lines before × ((IsSilent line × (ss ≡ before)) ⊎ ((s : Statement) × Says line s × (ss ≡ before ++ s ∷ [])))
Say-split [] line ss (inl (quiet, none)) = ([], refl, inl (quiet, none))
Say-split [] line ss (inr (s, others, says, none, is)) = ([], refl, inr (s, says, is ∙ ap (λ (xs : List Statement). s ∷ xs) none))
Say-split (first ∷ lines) line ss (inl (quiet, say)) =
    let (before, said, last) = Say-split lines line ss say in (before, inl (quiet, said), last)
Say-split (first ∷ lines) line ss (inr (t, others, says, say, is)) =
    let (before, said, last) = Say-split lines line others say in (
      t ∷ before,
      inr (t, before, says, said, refl),
      elim last [
        | inl (quiet, same) ↦ inl (quiet, is ∙ ap (λ (xs : List Statement). t ∷ xs) same)
        | inr (s, line_says, same) ↦ inr (s, line_says, is ∙ ap (λ (xs : List Statement). t ∷ xs) same)
      ],
    )

-- the last of the statements of arc lines is one of them
arcs_split : (arcs : List Arc) (earlier : List Statement) (s : Statement) → map ArcLine arcs ≡ earlier ++ s ∷ []
    → (front : List Arc) × (last : Arc) × (arcs ≡ front ++ last ∷ []) × (earlier ≡ map ArcLine front) × (s ≡ ArcLine last)
arcs_split [] [] s e = absurd (cc)
arcs_split (a ∷ []) [] s e = ([], a, refl, refl, cc)
arcs_split (a ∷ arcs) (t ∷ earlier) s e =
    let tails : map ArcLine arcs ≡ earlier ++ s ∷ [] = cc in
    let (front, last, whole, is, same) = arcs_split arcs earlier s tails in
    (a ∷ front, last, cc, cc, same)
arcs_split arcs earlier s e = absurd (cc)

-- what the last of valid lines may be, given what the others state
abbrev EndsLawfully : SaidSoFar → List ℕ → Type 0
EndsLawfully Unsaid line = IsSilent line ⊎ ((n m : ℕ) × Says line (Problem n m) × (n ≤ MAX_VERTICES) × (m ≤ MAX_ARCS))
EndsLawfully (Stated n m arcs) line = IsSilent line ⊎ ((arc : Arc) × Says line (ArcLine arc) × IsArcOf n arc × (length arcs < m))

speaks_last : (lines whole : List (List ℕ)) (line : List ℕ) (n m : ℕ) (arcs : List Arc) (earlier : List Statement) (s : Statement) → AreLawfulLines whole n m arcs
    → Say lines earlier → Says line s → Problem n m ∷ map ArcLine arcs ≡ earlier ++ s ∷ [] → (t : SaidSoFar) × HaveSaid lines t × EndsLawfully t line
speaks_last lines whole line n m arcs [] s lawful says line_says same =
    let first : s ≡ Problem n m = cc in
    (Unsaid, says, inr (n, m, subst (Says line) first line_says, lawful.vertices, lawful.arc_lines))
speaks_last lines whole line n m arcs (t ∷ earlier) s lawful says line_says same =
    let tails : map ArcLine arcs ≡ earlier ++ s ∷ [] = cc in
    let (front, last, parted, is, adds) = arcs_split arcs earlier s tails in
    let before : t ∷ earlier ≡ Problem n m ∷ map ArcLine front = cc in
    let (each, is_arc) = All-parts (IsArcOf n) front (last ∷ []) (subst (AllByRecursion (IsArcOf n)) parted lawful.each) in
    let room : length front < m = omega (arith, lawful.no_more, ap length parted, length_push front last) in (
      Stated n m front,
      record { say = subst (Say lines) before says; vertices = lawful.vertices; arc_lines = lawful.arc_lines; no_more = omega arith; each = each },
      inr (last, subst (Says line) adds line_says, is_arc.0, room),
    )

pub lawful_ends : (lines : List (List ℕ)) (line : List ℕ) → AreLawfulSoFar (lines ++ line ∷ []) → (so_far : SaidSoFar) × HaveSaid lines so_far × EndsLawfully so_far line
lawful_ends lines line (inl say) =
    let (earlier, says, last) = Say-split lines line [] say in
    elim last [
      | inl (quiet, same) ↦ (Unsaid, subst (Say lines) (sym same) says, inl quiet)
      | inr (s, line_says, same) ↦ absurd (no_last earlier s same)
    ]
  where
    no_last : (earlier : List Statement) (s : Statement) → [] ≡ earlier ++ s ∷ [] → ⊥
    no_last [] s e = cc
    no_last (t ∷ earlier) s e = cc
lawful_ends lines line (inr (n, m, arcs, lawful)) =
    let (earlier, says, last) = Say-split lines line (Problem n m ∷ map ArcLine arcs) lawful.say in
    elim last [
      | inl (quiet, same) ↦ (Stated n m arcs, AreLawfulLines-like (lines ++ line ∷ []) lines n m arcs lawful (subst (Say lines) (sym same) says), inl quiet)
      | inr (s, line_says, same) ↦ speaks_last lines (lines ++ line ∷ []) line n m arcs earlier s lawful says line_says same
    ]

-- The kind of an error excludes every statement that a valid line after those may make.
fault_is_faulty : (before : List (List ℕ)) (line : List ℕ) (kind : GrKind) → IsFaultAfter before line kind → ¬ (AreLawfulSoFar (before ++ line ∷ []))
fault_is_faulty before line kind fault lawful =
    let (so_far, said, ends) = lawful_ends before line lawful in
    no_such so_far (subst (λ (t : SaidSoFar). IsWrong fault.sort t kind) (said_unique before fault.so_far so_far fault.said said) fault.wrong) ends
  where
    as_sort : (so_far : SaidSoFar) (sort : LineSort) → IsOfSort line sort → IsWrong fault.sort so_far kind → IsWrong sort so_far kind
    as_sort so_far sort of_sort = subst (λ (s : LineSort). IsWrong s so_far kind) (IsOfSort-unique line fault.sort sort fault.of_sort of_sort)

    no_such : (so_far : SaidSoFar) → IsWrong fault.sort so_far kind → EndsLawfully so_far line → ⊥
    no_such Unsaid wrong (inl silent) = as_sort Unsaid Nothing silent wrong
    no_such (Stated n m arcs) wrong (inl silent) = as_sort (Stated n m arcs) Nothing silent wrong
    no_such Unsaid wrong (inr (n, m, says, small, few)) = elim (as_sort Unsaid (Makes (Problem n m)) says wrong).0 [ inl more ↦ omega arith | inr more ↦ omega arith ]
    no_such (Stated n m arcs) wrong (inr (arc, says, is_arc, room)) =
        elim (as_sort (Stated n m arcs) (Makes (ArcLine arc)) says wrong) [ inl full ↦ omega (arith, full.0) | inr (inl bad) ↦ bad.1 is_arc.0 | inr (inr bad) ↦ bad.2 is_arc.1 ]

-- a line with an error after valid lines is the first invalid one
pub first_faulty_at : (before : List (List ℕ)) (line : List ℕ) (after : List (List ℕ)) (number : ℕ) (kind : GrKind) → AreLawfulSoFar before → number ≡ length before + 1
    → IsFaultAfter before line kind → IsFirstFaulty (before ++ line ∷ after) number kind
first_faulty_at before line after number kind lawful counted fits = record {
  before = before;
  line = line;
  after = after;
  parted = refl;
  counted = counted;
  lawful = lawful;
  faulty = fault_is_faulty before line kind fits;
  kind_fits = fits;
}
