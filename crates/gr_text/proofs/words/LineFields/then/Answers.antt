use Rattle.std.proofs.Common.{ℕ, List, [], ◌∷◌, ◌++◌, ap, subst, codes}
use Rattle.gr_text.specs.Word.{LineMeans, IsProblem, IsArcLine}
use Rattle.gr_text.specs.declared.words.LineFields.{LineFields}
use Rattle.gr_text.proofs.LineFields.{NeverSay-more, problem_without_sp, problem_without_vertices, problem_without_arcs}
use Rattle.gr_text.proofs.LineFields.{problem_with_more, arc_without_tail, arc_without_head, arc_without_weight, arc_with_more}
use Rattle.gr_text.proofs.words.LineFields.then.Goals as goal

pub returns-in-Unknown : goal.returns-in-Unknown
returns-in-Unknown c = λ fields field some line word.
    let means = subst (λ (l : LineFields). LineMeans l fields) c.in-Unknown.is line in
    (means.0, means.1 ++ field ∷ [], ap (λ (xs : List (List ℕ)). xs ++ field ∷ []) means.2, means.3, means.4, means.5)

pub returns-else-is_sp : goal.returns-else-is_sp
returns-else-is_sp c = λ fields field some line word.
    problem_without_sp fields field (subst (λ (l : LineFields). LineMeans l fields) c.in-Problem.is line)
    (λ is. absurd (let h = (c.if-is_sp.ensures field word).1 is in cc))

pub returns-in-None : goal.returns-in-None
returns-in-None c = λ fields field some line word.
    problem_without_vertices fields field (subst (λ (l : LineFields). LineMeans l fields) c.in-ProblemSp.is line) (c.in-None.ensures field word)

pub returns-in-None-as_number : goal.returns-in-None-as_number
returns-in-None-as_number c = λ fields field some line word.
    let means = subst (λ (l : LineFields). LineMeans l fields) c.in-ProblemVertices.is line in
    problem_without_arcs fields field means.0 means.1 (c.in-None-as_number.ensures field word)

pub returns-in-ProblemWhole : goal.returns-in-ProblemWhole
returns-in-ProblemWhole c = λ fields field some line word.
    let means = subst (λ (l : LineFields). LineMeans l fields) c.in-ProblemWhole.is line in
    problem_with_more fields field means.0 means.1 means.2

pub returns-in-BadProblem : goal.returns-in-BadProblem
returns-in-BadProblem c = λ fields field some line word.
    NeverSay-more (codes "p") fields field IsProblem (subst (λ (l : LineFields). LineMeans l fields) c.in-BadProblem.is line)

pub returns-in-None-as_number-2 : goal.returns-in-None-as_number-2
returns-in-None-as_number-2 c = λ fields field some line word.
    arc_without_tail fields field (subst (λ (l : LineFields). LineMeans l fields) c.in-Arc.is line) (c.in-None-as_number-2.ensures field word)

pub returns-in-None-as_number-3 : goal.returns-in-None-as_number-3
returns-in-None-as_number-3 c = λ fields field some line word.
    let means = subst (λ (l : LineFields). LineMeans l fields) c.in-ArcTail.is line in
    arc_without_head fields field means.0 means.1 (c.in-None-as_number-3.ensures field word)

pub returns-in-None-as_signed : goal.returns-in-None-as_signed
returns-in-None-as_signed c = λ fields field some line word.
    let means = subst (λ (l : LineFields). LineMeans l fields) c.in-ArcEnds.is line in
    arc_without_weight fields field means.0 means.1 means.2 (c.in-None-as_signed.ensures field word)

pub returns-in-ArcWhole : goal.returns-in-ArcWhole
returns-in-ArcWhole c = λ fields field some line word.
    let means = subst (λ (l : LineFields). LineMeans l fields) c.in-ArcWhole.is line in
    arc_with_more fields field means.0 means.1 means.2 means.3

pub returns-in-BadArc : goal.returns-in-BadArc
returns-in-BadArc c = λ fields field some line word.
    NeverSay-more (codes "a") fields field IsArcLine (subst (λ (l : LineFields). LineMeans l fields) c.in-BadArc.is line)
