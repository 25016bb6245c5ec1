use Rattle.gr_text.proofs.Keeping.{covered_by_itself}
use Rattle.worked_examples.proofs.tests.keeping.KeepOneKeep.keep.Goals as goal

pub returns-else-are_all-clause-cover : goal.returns-else-are_all-clause-cover
returns-else-are_all-clause-cover g c = covered_by_itself _
