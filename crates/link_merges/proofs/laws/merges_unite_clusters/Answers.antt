use Rattle.link_merges.proofs.Unions.{merges_unite}
use Rattle.link_merges.proofs.laws.merges_unite_clusters.Goals as goal

pub returns : goal.returns
returns c = merges_unite
