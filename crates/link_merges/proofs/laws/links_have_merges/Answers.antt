use Rattle.link_merges.proofs.Existing.{links_have_merges}
use Rattle.link_merges.proofs.laws.links_have_merges.Goals as goal

pub returns : goal.returns
returns c = links_have_merges
