use Rattle.gr_text.proofs.Texts.{means_one_graph}
use Rattle.gr_text.proofs.laws.a_text_means_one_graph.Goals as goal

pub returns : goal.returns
returns c = means_one_graph
