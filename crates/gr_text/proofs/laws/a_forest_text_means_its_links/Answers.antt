use Rattle.gr_text.proofs.ForestMeans.{forest_text_means_its_links, forest_text_gives_itself}
use Rattle.gr_text.proofs.laws.a_forest_text_means_its_links.Goals as goal

pub returns : goal.returns
returns c = record { links = forest_text_means_its_links; itself = forest_text_gives_itself }
