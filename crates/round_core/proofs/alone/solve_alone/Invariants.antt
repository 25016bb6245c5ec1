use Rattle.std.proofs.Common.{◌≡◌, ◌≤◌, ◌-◌}
use Rattle.links.specs.Cut.{joined}
use Rattle.round_core.specs.Solver.{vertices, HasRoundsOf}
use Rattle.round_core.proofs.alone.solve_alone.Given as goal

abbrev pub invariant-rounds : goal.invariant-rounds
invariant-rounds g l = record {
  same_vertices : vertices l.solver ≡ l.n;
  so_far : HasRoundsOf (joined l.cut) l.solver;
  few : l.solver.rounds ≤ 26;
}

abbrev pub decreases-rounds : goal.decreases-rounds
decreases-rounds g l = 27 - l.solver.rounds
