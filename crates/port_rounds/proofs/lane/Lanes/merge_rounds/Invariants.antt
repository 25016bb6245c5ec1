use Rattle.std.proofs.Common.{◌≡◌}
use Rattle.round_core.specs.Picks.{AreNoPicks}
use Rattle.port_rounds.proofs.Ending.{SoFar}
use Rattle.port_rounds.proofs.lane.Lanes.merge_rounds.Given as goal

abbrev pub invariant-loop : goal.invariant-loop
invariant-loop g l = record {
  so_far : SoFar g.P.Port l.n l.cut l.fn.self.lanes.now l.self.lanes.now l.solver l.alone;
  none : AreNoPicks l.reused.picks;
  same_lanes : l.self.lanes.ghost_name ≡ l.fn.self.lanes.ghost_name;
}
