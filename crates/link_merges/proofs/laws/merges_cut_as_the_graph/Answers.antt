use Rattle.link_merges.proofs.Cutting.{cut_as_the_graph}
use Rattle.link_merges.proofs.laws.merges_cut_as_the_graph.Goals as goal

pub returns : goal.returns
returns c = cut_as_the_graph
