use Rattle.round_core.proofs.Merging.{at_start}
use Rattle.round_core.proofs.solver.Solver.new.Goals as goal

pub invariant_of-result : goal.invariant_of-result
invariant_of-result g c = (at_start _ _ _ c.requires c.in_ok-labels.ensures.apart c.new.ensures.items, c.in_ok-roots.ensures)
