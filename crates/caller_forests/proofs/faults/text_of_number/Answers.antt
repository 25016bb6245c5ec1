use Rattle.std.proofs.Common.{inr, refl, ◌∙◌, w64, rules}
use Rattle.std.proofs.lemmas.Int.{to_z-of_z}
use Rattle.caller_forests.proofs.faults.text_of_number.Goals as goal

pub returns-in-None : goal.returns-in-None
returns-in-None c = inr (λ why same. c.in-None.ensures why (to_z-of_z w64 c.args.code (search rules) ∙ same), refl)
