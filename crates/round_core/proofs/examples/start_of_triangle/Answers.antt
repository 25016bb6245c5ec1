use Rattle.round_core.specs.Examples.{triangle, at_start}
use Rattle.round_core.proofs.Worked.{starts}
use Rattle.round_core.proofs.examples.start_of_triangle.Goals as goal

pub returns : goal.returns
returns c = c.start_is_before_rounds.ensures triangle 3 at_start starts
