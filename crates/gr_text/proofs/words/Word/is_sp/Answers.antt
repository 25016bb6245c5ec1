use Rattle.std.proofs.Common.{arith}
use Rattle.gr_text.proofs.FieldBytes.{kept_as_sp}
use Rattle.gr_text.proofs.words.Word.is_sp.Goals as goal

pub returns-in_default : goal.returns-in_default
returns-in_default c = search (arith, kept_as_sp)
