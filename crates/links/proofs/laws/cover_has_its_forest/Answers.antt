use Rattle.std.proofs.Common.{arith}
use Rattle.links.proofs.Covers.{cover_has_forest, forest_covers_list, same_links_cover, cover_of_cover, covers_together}
use Rattle.links.proofs.laws.cover_has_its_forest.Goals as goal

pub returns : goal.returns
returns c = search (arith, cover_has_forest, forest_covers_list, same_links_cover, cover_of_cover, covers_together)
