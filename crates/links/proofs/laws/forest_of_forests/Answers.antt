use Rattle.links.proofs.Covers.{forest_of_forests}
use Rattle.links.proofs.laws.forest_of_forests.Goals as goal

pub returns : goal.returns
returns c = forest_of_forests
