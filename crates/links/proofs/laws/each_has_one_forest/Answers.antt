use Rattle.links.proofs.OneForest.{each_has_one_forest}
use Rattle.links.proofs.laws.each_has_one_forest.Goals as goal

pub returns : goal.returns
returns c = each_has_one_forest
