use Rattle.std.proofs.Common.{subst, arith}
use Rattle.gr_text.specs.Word.{WordMeans}
use Rattle.gr_text.specs.declared.words.Word.{Word}
use Rattle.gr_text.proofs.FieldBytes.{BeginsComment-more, number_broken, negative_broken}
use Rattle.gr_text.proofs.words.Word.with_other.Goals as goal

pub returns-in-Comment : goal.returns-in-Comment
returns-in-Comment c = λ bytes means.
    BeginsComment-more bytes c.args.byte (subst (λ (w : Word). WordMeans w bytes) c.in-Comment.is means)

pub returns-in-Number : goal.returns-in-Number
returns-in-Number c = search (arith, number_broken)

pub returns-in-Negative : goal.returns-in-Negative
returns-in-Negative c = search (arith, negative_broken)
