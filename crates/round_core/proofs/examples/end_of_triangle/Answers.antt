use Rattle.round_core.specs.Examples.{triangle, two_sides, after_first, TriangleMissesNone}
use Rattle.round_core.proofs.Worked.{triangle_ends, first_holds, is_finished}
use Rattle.round_core.proofs.examples.end_of_triangle.Goals as goal

none : goal.After-rounds_end_with_forest → TriangleMissesNone
none c = (c.rounds_end_with_forest.ensures.none_missed triangle after_first first_holds triangle_ends c.rounds_of_triangle.ensures.first.right).1 c.rounds_of_triangle.ensures.last.1

pub returns-clause-none_missed : goal.returns-clause-none_missed
returns-clause-none_missed c = none c

pub returns-clause-forest : goal.returns-clause-forest
returns-clause-forest c = c.rounds_end_with_forest.ensures.forest triangle after_first c.rounds_of_triangle.ensures.first.right two_sides (is_finished (none c))
