use Rattle.links.proofs.Least.{no_cycle_is_its_forest}
use Rattle.links.proofs.laws.no_cycle_is_its_forest.Goals as goal

pub returns : goal.returns
returns c = no_cycle_is_its_forest
