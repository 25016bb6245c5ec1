-- From what a line and the lines before it state to its verdict.
use Rattle.std.proofs.Common.{◌≡◌, ℕ, ◌≤◌, ◌<◌, ◌⊎◌, List, [], ◌∷◌, subst, sym, arith, codes, ap, ◌∙◌, append-nil, length, Option, Some, None}
use Rattle.limits.specs.declared.TheConstants.{MAX_VERTICES}
use Rattle.links.specs.Arc.{Arc}
use Rattle.gr_text.specs.Statement.{Problem, ArcLine, AreSilent, FieldsSay}
use Rattle.gr_text.specs.Sort.{LineSort, NoProblem, NoArc, AreOfSort, IsOfSort}
use Rattle.gr_text.specs.Graph.{HasEnds, AreLawfulLines}
use Rattle.gr_text.specs.Fault.{SaidSoFar, Unsaid, Stated, HaveSaid, IsWrong, IsFaultAfter}
use Rattle.gr_text.specs.LinesSoFar.{AreTallied}
use Rattle.gr_text.specs.Word.{IsCapped, LineMeans}
use Rattle.gr_text.specs.declared.faults.GrKind.{GrKind}
use Rattle.gr_text.specs.declared.sizes.ProblemSize.{ProblemSize}
use Rattle.gr_text.specs.declared.words.LineFields.{LineFields}
use Rattle.gr_text.specs.declared.words.LineFields.TheVariants as line

-- what lines state, given what is stored of them
pub said_of : (size : Option ProblemSize) (count : ℕ) (lines : List (List ℕ)) → AreTallied size count lines → (so_far : SaidSoFar) × HaveSaid lines so_far
said_of None count lines (say, zero_count) = (Unsaid, say)
said_of (Some size) count lines (arcs, lawful, counted) = (Stated size.vertices size.arcs arcs, lawful)

-- a line of this sort has this error after lines without a problem, and after lines with one
pub fault_alone : (sort : LineSort) (kind : GrKind) (size : Option ProblemSize) (count : ℕ) (lines : List (List ℕ)) (bytes : List ℕ) → size ≡ None
    → AreTallied size count lines → IsOfSort bytes sort → IsWrong sort Unsaid kind → IsFaultAfter lines bytes kind
fault_alone sort kind size count lines bytes none counts of_sort wrong = search arith

pub fault_behind : (sort : LineSort) (kind : GrKind) (size : Option ProblemSize) (old : ProblemSize) (count : ℕ) (lines : List (List ℕ)) (bytes : List ℕ) → size ≡ Some old
    → AreTallied size count lines → IsOfSort bytes sort
    → ((arcs : List Arc) → AreLawfulLines lines old.vertices old.arcs arcs → length arcs ≡ count → IsWrong sort (Stated old.vertices old.arcs arcs) kind)
    → IsFaultAfter lines bytes kind
fault_behind sort kind size old count lines bytes some counts of_sort wrong = search arith

-- a problem line or an arc line with too few fields, or with a field that isn't allowed
short_problem : (fields others : List (List ℕ)) → fields ≡ codes "p" ∷ others → length others < 3 → AreOfSort fields NoProblem
short_problem fields others is few = search (arith, codes)

pub no_problem : (l : LineFields) (fields : List (List ℕ)) → LineMeans l fields
    → (l ≡ line.Problem) ⊎ (l ≡ line.ProblemSp) ⊎ ((n : ℕ) × (l ≡ line.ProblemVertices n)) ⊎ (l ≡ line.BadProblem) → AreOfSort fields NoProblem
no_problem line.Problem fields is which = short_problem fields [] is (omega arith)
no_problem line.ProblemSp fields is which = short_problem fields (codes "sp" ∷ []) is (omega arith)
no_problem (line.ProblemVertices n) fields (f, is, kept) which = short_problem fields (codes "sp" ∷ f ∷ []) is (omega arith)
no_problem line.BadProblem fields (begins, never) which =
    (begins, λ n m says. never [] (Problem n m) tt (subst (λ (xs : List (List ℕ)). FieldsSay xs (Problem n m)) (sym (append-nil fields)) says))
no_problem l fields means which = absurd (grind arith)

short_arc : (fields others : List (List ℕ)) → fields ≡ codes "a" ∷ others → length others < 3 → AreOfSort fields NoArc
short_arc fields others is few = search (arith, codes)

pub no_arc : (l : LineFields) (fields : List (List ℕ)) → LineMeans l fields
    → (l ≡ line.Arc) ⊎ ((u : ℕ) × (l ≡ line.ArcTail u)) ⊎ ((u v : ℕ) × (l ≡ line.ArcEnds u v)) ⊎ (l ≡ line.BadArc) → AreOfSort fields NoArc
no_arc line.Arc fields is which = short_arc fields [] is (omega arith)
no_arc (line.ArcTail u) fields (f, is, kept) which = short_arc fields (f ∷ []) is (omega arith)
no_arc (line.ArcEnds u v) fields (f, g, is, kept_u, kept_v) which = short_arc fields (f ∷ g ∷ []) is (omega arith)
no_arc line.BadArc fields (begins, never) which =
    (begins, λ arc says. never [] (ArcLine arc) tt (subst (λ (xs : List (List ℕ)). FieldsSay xs (ArcLine arc)) (sym (append-nil fields)) says))
no_arc l fields means which = absurd (grind arith)

-- the first field decides whether a line is silent
pub silent_alone : (first : List ℕ) (others : List (List ℕ)) → AreSilent (first ∷ others) → AreSilent (first ∷ [])
silent_alone a1 a2 a3 = search arith

pub ends_of : (n u v : ℕ) (arc : Arc) → n ≤ MAX_VERTICES → IsCapped u arc.tail → IsCapped v arc.head → 1 ≤ u → u ≤ n → 1 ≤ v → v ≤ n → HasEnds n arc
ends_of n u v arc small tail head u1 un v1 vn = search arith
