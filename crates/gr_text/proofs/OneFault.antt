-- A text has at most one first error, and none if it describes a graph.
use Rattle.std.proofs.Common.{◌≡◌, ℕ, ◌+◌, ◌⊎◌, inl, inr, List, [], ◌∷◌, ◌++◌, refl, ap, sym, ◌∙◌, subst, arith, append_assoc, append-nil, map, length}
use Rattle.links.specs.Arc.{Arc}
use Rattle.gr_text.specs.Statement.{Problem, ArcLine}
use Rattle.gr_text.specs.Sort.{LineSort, Nothing, Makes}
use Rattle.gr_text.specs.Graph.{AreLawfulLines, AreLawfulSoFar}
use Rattle.gr_text.specs.Fault.{SaidSoFar, Unsaid, Stated, HaveSaid, IsWrong, IsFaultAfter, IsFirstFaulty, Lacks}
use Rattle.gr_text.specs.Laws.{NeverBoth, HasOneFault}
use Rattle.gr_text.specs.declared.faults.GrKind.{GrKind}
use Rattle.gr_text.specs.declared.faults.GrKind.TheVariants.{MissingProblem, MissingArcs}
use Rattle.gr_text.proofs.Unique.{AreLines-unique, Say-unique}
use Rattle.gr_text.proofs.Sorts.{IsOfSort-unique}
use Rattle.gr_text.proofs.Faulty.{lawful_ends}
use Rattle.gr_text.proofs.Texts.{AreLawfulLines-unique, said_unique}

lawful_said : (lines : List (List ℕ)) (so_far : SaidSoFar) → HaveSaid lines so_far → AreLawfulSoFar lines
lawful_said a1 a2 a3 = search arith

-- a prefix of valid lines is valid
AreLawfulSoFar-prefix : (lines more : List (List ℕ)) → AreLawfulSoFar (lines ++ more) → AreLawfulSoFar lines
AreLawfulSoFar-prefix lines [] lawful = subst AreLawfulSoFar (append-nil lines) lawful
AreLawfulSoFar-prefix lines (line ∷ more) lawful = search (arith, lawful_ends, append_assoc, lawful_said, AreLawfulSoFar-prefix (lines ++ line ∷ []) more)

lawful_no_fault : (lines : List (List ℕ)) (number : ℕ) (kind : GrKind) → AreLawfulSoFar lines → IsFirstFaulty lines number kind → ⊥
lawful_no_fault lines number kind lawful first =
    first.faulty (AreLawfulSoFar-prefix (first.before ++ first.line ∷ []) first.after
    (subst AreLawfulSoFar (first.parted ∙ sym (append_assoc first.before (first.line ∷ []) first.after)) lawful))

-- if something is missing, the lines are valid and describe no graph
abbrev lack : SaidSoFar → GrKind
lack Unsaid = MissingProblem
lack (Stated n m arcs) = MissingArcs

lack_said : (lines : List (List ℕ)) (kind : GrKind) → Lacks lines kind → (so_far : SaidSoFar) × HaveSaid lines so_far × (kind ≡ lack so_far)
lack_said lines MissingProblem none = (Unsaid, none, refl)
lack_said lines MissingArcs (n, m, arcs, known, few) = (Stated n m arcs, known, refl)
lack_said lines kind lacks = absurd lacks

lack_lawful : (lines : List (List ℕ)) (kind : GrKind) → Lacks lines kind → AreLawfulSoFar lines
lack_lawful lines kind lacks = let (so_far, said, is) = lack_said lines kind lacks in lawful_said lines so_far said

lack_no_graph : (lines : List (List ℕ)) (kind : GrKind) (n : ℕ) (arcs : List Arc) → AreLawfulLines lines n (length arcs) arcs → Lacks lines kind → ⊥
lack_no_graph lines MissingProblem n arcs lawful none =
    let same : Problem n (length arcs) ∷ map ArcLine arcs ≡ [] = Say-unique lines _ _ lawful.say none in cc
lack_no_graph lines MissingArcs n arcs lawful (k, l, others, known, few) =
    let (sn, sm, sa) = AreLawfulLines-unique lines n (length arcs) k l arcs others lawful known in
    let counted : length arcs ≡ length others = ap length sa in omega arith
lack_no_graph lines kind n arcs lawful lacks = lacks

pub never_both : NeverBoth
never_both text n arcs number kind (lines, are, lawful) (others, are', fault) =
    let same : lines ≡ others = AreLines-unique text lines others are are' in
    let known : AreLawfulLines others n (length arcs) arcs = subst (λ (x : List (List ℕ)). AreLawfulLines x n (length arcs) arcs) same lawful in
    elim fault [
      | inl first ↦ lawful_no_fault others number kind (inr (n, length arcs, arcs, known)) first
      | inr (lacks, last) ↦ lack_no_graph others kind n arcs known lacks
    ]

-- A line of a sort has only one kind of error.
wrong_unique : (sort : LineSort) (so_far : SaidSoFar) (k l : GrKind) → IsWrong sort so_far k → IsWrong sort so_far l → k ≡ l
wrong_unique Nothing so_far k l a b = absurd a
wrong_unique (Makes (Problem x y)) so_far k l a b = grind arith
wrong_unique (Makes (ArcLine arc)) (Stated n m arcs) k l (inl a) (inl b) = a.1 ∙ sym b.1
wrong_unique (Makes (ArcLine arc)) (Stated n m arcs) k l (inr (inl a)) (inr (inl b)) = a.2 ∙ sym b.2
wrong_unique (Makes (ArcLine arc)) (Stated n m arcs) k l (inr (inr a)) (inr (inr b)) = a.3 ∙ sym b.3
wrong_unique (Makes (ArcLine arc)) (Stated n m arcs) k l (inr (inl a)) (inr (inr b)) = absurd (a.1 b.1)
wrong_unique (Makes (ArcLine arc)) (Stated n m arcs) k l (inr (inr a)) (inr (inl b)) = absurd (b.1 a.1)
wrong_unique sort so_far k l a b = grind arith

one_kind : (before : List (List ℕ)) (line : List ℕ) (kind another : GrKind) → IsFaultAfter before line kind → IsFaultAfter before line another → kind ≡ another
one_kind before line kind another a b =
    let so_far = said_unique before a.so_far b.so_far a.said b.said in
    let sort = IsOfSort-unique line a.sort b.sort a.of_sort b.of_sort in
    wrong_unique b.sort b.so_far kind another (subst (λ (t : SaidSoFar). IsWrong b.sort t kind) so_far (subst (λ (s : LineSort). IsWrong s a.so_far kind) sort a.wrong)) b.wrong

one_lack : (lines : List (List ℕ)) (kind another : GrKind) → Lacks lines kind → Lacks lines another → kind ≡ another
one_lack lines kind another a b = search (arith, lack_said, said_unique)

-- Two positions in one list are the same, or one comes before the other.
abbrev Precedes : {X : Type 0} → List X → X → List X → Type 0
Precedes {X} before x others = (between : List X) × (others ≡ (before ++ x ∷ []) ++ between)

places : {X : Type 0} (before others : List X) (x y : X) (after more : List X) → before ++ x ∷ after ≡ others ++ y ∷ more
    → ((before ≡ others) × (x ≡ y)) ⊎ Precedes before x others ⊎ Precedes others y before
places [] [] x y after more e = inl (refl, cc)
places [] (o ∷ others) x y after more e = inr (inl (others, (let heads : o ≡ x = cc in ap (λ z. z ∷ others) heads)))
places (b ∷ before) [] x y after more e = inr (inr (before, (let heads : b ≡ y = cc in ap (λ z. z ∷ before) heads)))
places (b ∷ before) (o ∷ others) x y after more e =
    let heads : b ≡ o = cc in
    let tails : before ++ x ∷ after ≡ others ++ y ∷ more = cc in
    elim (places before others x y after more tails) [
      | inl (same, is) ↦ inl (ap (λ z. z ∷ before) heads ∙ ap (λ zs. o ∷ zs) same, is)
      | inr (inl (between, is)) ↦ inr (inl (between, ap (λ zs. o ∷ zs) is ∙ ap (λ z. z ∷ ((before ++ x ∷ []) ++ between)) (sym heads)))
      | inr (inr (between, is)) ↦ inr (inr (between, ap (λ zs. b ∷ zs) is ∙ ap (λ z. z ∷ ((others ++ y ∷ []) ++ between)) heads))
    ]

-- an invalid line isn't among valid ones
faulty_not_before : (before : List (List ℕ)) (line : List ℕ) (others : List (List ℕ)) → ¬ (AreLawfulSoFar (before ++ line ∷ [])) → AreLawfulSoFar others → Precedes before line others → ⊥
faulty_not_before before line others faulty lawful (between, is) = faulty (AreLawfulSoFar-prefix (before ++ line ∷ []) between (subst AreLawfulSoFar is lawful))

one_faulty_line : (lines : List (List ℕ)) (number other : ℕ) (kind another : GrKind) → IsFirstFaulty lines number kind → IsFirstFaulty lines other another
    → (number ≡ other) × (kind ≡ another)
one_faulty_line lines number other kind another a b =
    elim (places a.before b.before a.line b.line a.after b.after (sym a.parted ∙ b.parted)) [
      | inl (same, is) ↦ (
        a.counted ∙ ap (λ (xs : List (List ℕ)). length xs + 1) same ∙ sym b.counted,
        one_kind b.before b.line kind another
            (subst (λ (x : List ℕ). IsFaultAfter b.before x kind) is (subst (λ (xs : List (List ℕ)). IsFaultAfter xs a.line kind) same a.kind_fits)) b.kind_fits,
      )
      | inr (inl earlier) ↦ absurd (faulty_not_before a.before a.line b.before a.faulty b.lawful earlier)
      | inr (inr later) ↦ absurd (faulty_not_before b.before b.line a.before b.faulty a.lawful later)
    ]

abbrev FaultOf : List (List ℕ) → ℕ → GrKind → Type 0
FaultOf lines number kind = IsFirstFaulty lines number kind ⊎ (Lacks lines kind × (number ≡ length lines + 1))

one_fault_of : (lines : List (List ℕ)) (number other : ℕ) (kind another : GrKind) → FaultOf lines number kind → FaultOf lines other another → (number ≡ other) × (kind ≡ another)
one_fault_of lines number other kind another (inl a) (inl b) = one_faulty_line lines number other kind another a b
one_fault_of lines number other kind another (inl a) (inr b) = absurd (lawful_no_fault lines number kind (lack_lawful lines another b.0) a)
one_fault_of lines number other kind another (inr a) (inl b) = absurd (lawful_no_fault lines other another (lack_lawful lines kind a.0) b)
one_fault_of lines number other kind another (inr a) (inr b) = (a.1 ∙ sym b.1, one_lack lines kind another a.0 b.0)

pub has_one_fault : HasOneFault
has_one_fault text number other kind another (lines, are, a) (lines', are', b) =
    one_fault_of lines number other kind another a (subst (λ (xs : List (List ℕ)). FaultOf xs other another) (AreLines-unique text lines' lines are' are) b)
