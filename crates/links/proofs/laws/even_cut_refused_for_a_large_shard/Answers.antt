use Rattle.links.proofs.EvenSizes.{refused_for_a_large_shard}
use Rattle.links.proofs.laws.even_cut_refused_for_a_large_shard.Goals as goal

pub returns : goal.returns
returns c = refused_for_a_large_shard
