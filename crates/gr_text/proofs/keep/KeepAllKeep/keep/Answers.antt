use Rattle.gr_text.proofs.Keeping.{covered_by_itself}
use Rattle.gr_text.proofs.keep.KeepAllKeep.keep.Goals as goal

pub returns-clause-cover : goal.returns-clause-cover
returns-clause-cover g c = covered_by_itself _
