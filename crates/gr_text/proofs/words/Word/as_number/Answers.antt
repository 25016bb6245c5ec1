use Rattle.std.proofs.Common.{rules}
use Rattle.gr_text.proofs.FieldBytes.{kept_as_number}
use Rattle.gr_text.proofs.words.Word.as_number.Goals as goal

pub returns-in-Empty : goal.returns-in-Empty
returns-in-Empty c = λ field means n writes.
    let kept = kept_as_number c.args.self field n means writes in
    let is = c.in-Empty.is in
    let same = kept.1 in
    search rules
