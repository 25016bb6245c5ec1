use Rattle.link_merges.proofs.Unique.{one_list}
use Rattle.link_merges.proofs.laws.links_have_one_list_of_merges.Goals as goal

pub returns : goal.returns
returns c = one_list
