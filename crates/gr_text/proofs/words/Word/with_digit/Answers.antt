use Rattle.std.proofs.Common.{ℕ, ◌∷◌, [], ◌++◌, List, subst, ap, arith}
use Rattle.gr_text.specs.Word.{WordMeans}
use Rattle.gr_text.specs.declared.words.Word.{Word}
use Rattle.gr_text.proofs.FieldBytes.{BeginsComment-more, Writes-more, Writes-one}
use Rattle.gr_text.proofs.words.Word.with_digit.Goals as goal

pub returns-in-Comment : goal.returns-in-Comment
returns-in-Comment c = λ bytes means.
    BeginsComment-more bytes c.args.digit (subst (λ (w : Word). WordMeans w bytes) c.in-Comment.is means)

pub returns-in-Minus : goal.returns-in-Minus
returns-in-Minus c = λ bytes means.
    let minus = subst (λ (w : Word). WordMeans w bytes) c.in-Minus.is means in
    (c.args.digit ∷ [], _, ap (λ (xs : List ℕ). xs ++ c.args.digit ∷ []) minus, Writes-one c.args.digit c.requires, omega arith)

pub returns-in-Negative : goal.returns-in-Negative
returns-in-Negative c = λ bytes means.
    let kept = subst (λ (w : Word). WordMeans w bytes) c.in-Negative.is means in (
      kept.0 ++ c.args.digit ∷ [],
      _,
      ap (λ (xs : List ℕ). xs ++ c.args.digit ∷ []) kept.2,
      Writes-more kept.0 c.args.digit kept.1 kept.3 c.requires,
      c.extended-in-Negative.ensures kept.1 kept.4,
    )
