-- What a line can still become after one more field.
use Rattle.std.proofs.Common.{◌≡◌, ◌≢◌, ℕ, ℤ, List, [], ◌∷◌, ◌++◌, refl, ap, sym, append_assoc, codes, subst, arith}
use Rattle.links.specs.Arc.{Arc}
use Rattle.gr_text.specs.Fields.{Writes, WritesSigned}
use Rattle.gr_text.specs.Statement.{Statement, Problem, ArcLine, AreSilent, FieldsSay}
use Rattle.gr_text.specs.Word.{NeverSay, IsProblem, IsArcLine, BeginsComment}

-- fields that never make such a statement don't make it with one more field either
pub NeverSay-more : (first : List ℕ) (fields : List (List ℕ)) (field : List ℕ) (P : Statement → Type 0) → NeverSay first fields P → NeverSay first (fields ++ field ∷ []) P
NeverSay-more first fields field P ((others, is), never) = (
  (others ++ field ∷ [], ap (λ (xs : List (List ℕ)). xs ++ field ∷ []) is),
  λ more statement p says. never (field ∷ more) statement p
      (subst (λ (xs : List (List ℕ)). FieldsSay xs statement) (append_assoc fields (field ∷ []) more) says),
)

-- fields that make no such statement, whatever follows
never_problem : (fields others : List (List ℕ)) (field : List ℕ) → fields ≡ codes "p" ∷ others
    → ((more : List (List ℕ)) (n m : ℕ) → ¬ (FieldsSay (codes "p" ∷ (others ++ field ∷ more)) (Problem n m))) → NeverSay (codes "p") (fields ++ field ∷ []) IsProblem
never_problem fields others field is never =
    subst (λ (xs : List (List ℕ)). NeverSay (codes "p") (xs ++ field ∷ []) IsProblem) (sym is) (
      (others ++ field ∷ [], refl),
      λ more statement p says. elim statement as (λ s. IsProblem s → FieldsSay (codes "p" ∷ ((others ++ field ∷ []) ++ more)) s → ⊥) [
        | Problem n m ↦ λ p it_says. never more n m (subst (λ (xs : List (List ℕ)). FieldsSay (codes "p" ∷ xs) (Problem n m)) (append_assoc others (field ∷ []) more) it_says)
        | ArcLine arc ↦ λ p it_says. p
      ] p says,
    )

never_arc : (fields others : List (List ℕ)) (field : List ℕ) → fields ≡ codes "a" ∷ others
    → ((more : List (List ℕ)) (arc : Arc) → ¬ (FieldsSay (codes "a" ∷ (others ++ field ∷ more)) (ArcLine arc))) → NeverSay (codes "a") (fields ++ field ∷ []) IsArcLine
never_arc fields others field is never =
    subst (λ (xs : List (List ℕ)). NeverSay (codes "a") (xs ++ field ∷ []) IsArcLine) (sym is) (
      (others ++ field ∷ [], refl),
      λ more statement p says. elim statement as (λ s. IsArcLine s → FieldsSay (codes "a" ∷ ((others ++ field ∷ []) ++ more)) s → ⊥) [
        | Problem n m ↦ λ p it_says. p
        | ArcLine arc ↦ λ p it_says. never more arc (subst (λ (xs : List (List ℕ)). FieldsSay (codes "a" ∷ xs) (ArcLine arc)) (append_assoc others (field ∷ []) more) it_says)
      ] p says,
    )

-- a second field other than sp, a third or a fourth that isn't a number, and a fifth
pub problem_without_sp : (fields : List (List ℕ)) (field : List ℕ) → fields ≡ codes "p" ∷ [] → field ≢ codes "sp" → NeverSay (codes "p") (fields ++ field ∷ []) IsProblem
problem_without_sp fields field is other = never_problem fields [] field is (λ more n m (f, g, e, wf, wg). other (let same : field ≡ codes "sp" = cc in same))

pub problem_without_vertices : (fields : List (List ℕ)) (field : List ℕ) → fields ≡ codes "p" ∷ codes "sp" ∷ [] → ((n : ℕ) → ¬ (Writes field n)) → NeverSay (codes "p") (fields ++ field ∷ []) IsProblem
problem_without_vertices fields field is other =
    never_problem fields (codes "sp" ∷ []) field is (λ more n m (f, g, e, wf, wg). let same : f ≡ field = cc in other n (subst (λ (x : List ℕ). Writes x n) same wf))

pub problem_without_arcs : (fields : List (List ℕ)) (field first : List ℕ) → fields ≡ codes "p" ∷ codes "sp" ∷ first ∷ []
    → ((n : ℕ) → ¬ (Writes field n)) → NeverSay (codes "p") (fields ++ field ∷ []) IsProblem
problem_without_arcs fields field first is other =
    never_problem fields (codes "sp" ∷ first ∷ []) field is (λ more n m (f, g, e, wf, wg). let same : g ≡ field = cc in other m (subst (λ (x : List ℕ). Writes x m) same wg))

pub problem_with_more : (fields : List (List ℕ)) (field first second : List ℕ) → fields ≡ codes "p" ∷ codes "sp" ∷ first ∷ second ∷ [] → NeverSay (codes "p") (fields ++ field ∷ []) IsProblem
problem_with_more fields field first second is = never_problem fields (codes "sp" ∷ first ∷ second ∷ []) field is (λ more n m (f, g, e, wf, wg). cc)

-- the same for arc lines
pub arc_without_tail : (fields : List (List ℕ)) (field : List ℕ) → fields ≡ codes "a" ∷ [] → ((n : ℕ) → ¬ (Writes field n)) → NeverSay (codes "a") (fields ++ field ∷ []) IsArcLine
arc_without_tail fields field is other =
    never_arc fields [] field is (λ more arc (f, g, h, e, wf, wg, wh). let same : f ≡ field = cc in other arc.tail (subst (λ (x : List ℕ). Writes x arc.tail) same wf))

pub arc_without_head : (fields : List (List ℕ)) (field first : List ℕ) → fields ≡ codes "a" ∷ first ∷ [] → ((n : ℕ) → ¬ (Writes field n)) → NeverSay (codes "a") (fields ++ field ∷ []) IsArcLine
arc_without_head fields field first is other =
    never_arc fields (first ∷ []) field is (λ more arc (f, g, h, e, wf, wg, wh). let same : g ≡ field = cc in other arc.head (subst (λ (x : List ℕ). Writes x arc.head) same wg))

pub arc_without_weight : (fields : List (List ℕ)) (field first second : List ℕ) → fields ≡ codes "a" ∷ first ∷ second ∷ []
    → ((z : ℤ) → ¬ (WritesSigned field z)) → NeverSay (codes "a") (fields ++ field ∷ []) IsArcLine
arc_without_weight fields field first second is other =
    never_arc fields (first ∷ second ∷ []) field is (λ more arc (f, g, h, e, wf, wg, wh). let same : h ≡ field = cc in other arc.weight (subst (λ (x : List ℕ). WritesSigned x arc.weight) same wh))

pub arc_with_more : (fields : List (List ℕ)) (field first second third : List ℕ) → fields ≡ codes "a" ∷ first ∷ second ∷ third ∷ [] → NeverSay (codes "a") (fields ++ field ∷ []) IsArcLine
arc_with_more fields field first second third is = never_arc fields (first ∷ second ∷ third ∷ []) field is (λ more arc (f, g, h, e, wf, wg, wh). cc)

-- a silent line with a field is a comment
pub comment_of_silent : (first : List ℕ) (others : List (List ℕ)) → AreSilent (first ∷ others) → BeginsComment first
comment_of_silent a1 a2 a3 = search arith
