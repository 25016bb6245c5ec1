use Rattle.links.proofs.Covers.{forest_joins_up_to, forest_joins_below}
use Rattle.links.proofs.laws.forest_joins_as_its_list.Goals as goal

pub returns : goal.returns
returns c = record { up_to = forest_joins_up_to; below = forest_joins_below }
