use Rattle.std.proofs.Common.{Contains, arith}
use Rattle.links.proofs.ForestSpans.{forest_no_cycle, forest_spans, spanning_part_is_forest}
use Rattle.round_theory.proofs.laws.forest_spans.Goals as goal

pub returns : goal.returns
returns c = search (arith, forest_no_cycle, forest_spans, spanning_part_is_forest)
