use Rattle.links.proofs.Components.{each_has_components, links_and_components}
use Rattle.links.proofs.laws.links_and_components.Goals as goal

pub returns : goal.returns
returns c = record { exist = each_has_components; sum = links_and_components }
