use Rattle.std.proofs.Common.{[], refl, rules, arith}
use Rattle.gr_text.proofs.FieldBytes.{kept_as_p, kept_as_a, kept_as_comment}
use Rattle.gr_text.proofs.LineFields.{comment_of_silent}
use Rattle.gr_text.proofs.words.LineFields.begun.Goals as goal

pub returns-in-Empty : goal.returns-in-Empty
returns-in-Empty c = search (arith, kept_as_p, kept_as_a, kept_as_comment, comment_of_silent)
