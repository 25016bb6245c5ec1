use Rattle.gr_text.specs.PartialLine.{with_field}
use Rattle.gr_text.proofs.Parts.{AreParts-whole}
use Rattle.gr_text.proofs.partial_line.PartialLine.whole.Goals as goal

pub returns : goal.returns
returns c = λ part (begun, (fields, last, parts, on, word)).
    (with_field fields last, AreParts-whole part fields last parts, c.closed.ensures fields last on word)
