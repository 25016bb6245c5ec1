use Rattle.std.proofs.Common.{arith}
use Rattle.round_core.proofs.Merging.{rounds_few}
use Rattle.round_core.proofs.solver.Solver.round.Goals as goal

pub overflow_add-result : goal.overflow_add-result
overflow_add-result g c = let few = rounds_few _ _ c.self.invariant.0.few_vertices c.self.invariant.0.in_time in omega (arith, few)
