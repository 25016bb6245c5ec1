use Rattle.std.proofs.Common.{[], refl, inl, inr}
use Rattle.gr_text.specs.PartialLine.{with_field}
use Rattle.gr_text.specs.Fields.{IsBlank}
use Rattle.gr_text.proofs.Parts.{AreParts-blank, is_begun-push}
use Rattle.gr_text.proofs.partial_line.PartialLine.with.Goals as goal

pub returns-in-32 : goal.returns-in-32
returns-in-32 c = λ part (begun, (fields, last, parts, on, word)).
    let blank : IsBlank c.args.byte = elim c.in-32.is [ inl tab ↦ inr (inl tab) | inr (inl return) ↦ inr (inr return) | inr (inr space) ↦ inl space ] in
    (is_begun-push part c.args.byte, (with_field fields last, [], AreParts-blank part fields last c.args.byte parts blank, c.closed.ensures fields last on word, refl))
