use Rattle.links.proofs.Covers.{forest_of_same_links}
use Rattle.links.proofs.laws.forest_of_same_links.Goals as goal

pub returns : goal.returns
returns c = forest_of_same_links
