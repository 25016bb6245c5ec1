use Rattle.std.proofs.Common.{◌≡◌, ℕ, List, [], ◌++◌, sym, subst, ◌∙◌}
use Rattle.gr_text.specs.PartialLine.{IsKeptAs, IsWhole}
use Rattle.gr_text.proofs.Parts.{not_begun}
use Rattle.gr_text.proofs.UsualLines.{usual_is_line}
use Rattle.gr_text.proofs.partial_line.PartialLine.next_line.Goals as goal

pub returns-in-Some-clause-ends : goal.returns-in-Some-clause-ends
returns-in-Some-clause-ends c = λ part kept.
    let none : part ≡ [] = not_begun part (sym kept.0 ∙ c.if-not-self.true) in
    let (line, usual, whole, is) = c.in-Some.ensures in (
      subst (IsKeptAs c.args.self.now) none kept,
      (line, usual_is_line line usual, is, subst (λ (xs : List ℕ). IsWhole c.in-Some.line (xs ++ line)) (sym none) whole),
    )
