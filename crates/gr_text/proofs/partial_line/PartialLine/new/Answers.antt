use Rattle.std.proofs.Common.{[], refl}
use Rattle.gr_text.proofs.Parts.{AreParts-none}
use Rattle.gr_text.proofs.partial_line.PartialLine.new.Goals as goal

pub returns : goal.returns
returns c = (refl, ([], [], AreParts-none, refl, refl))
