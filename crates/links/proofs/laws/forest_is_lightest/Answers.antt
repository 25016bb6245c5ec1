use Rattle.links.proofs.Least.{forest_is_lightest}
use Rattle.links.proofs.laws.forest_is_lightest.Goals as goal

pub returns : goal.returns
returns c = forest_is_lightest
