use Rattle.links.proofs.Reweighted.{forest_of_reweighted, places_of_reweighted}
use Rattle.links.proofs.laws.forest_of_reweighted.Goals as goal

pub returns : goal.returns
returns c = record { links = forest_of_reweighted; places = places_of_reweighted }
