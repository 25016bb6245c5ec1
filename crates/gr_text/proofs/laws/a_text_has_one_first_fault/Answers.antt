use Rattle.gr_text.proofs.OneFault.{has_one_fault}
use Rattle.gr_text.proofs.laws.a_text_has_one_first_fault.Goals as goal

pub returns : goal.returns
returns c = has_one_fault
