use Rattle.std.proofs.Common.{◌≡◌}
use Rattle.port_rounds.specs.Passes.{RunsPasses}
use Rattle.port_rounds.proofs.lane.Lanes.ask_ports.Given as goal

abbrev pub invariant-loop : goal.invariant-loop
invariant-loop g l = record {
  went : RunsPasses g.P.Port l.fn.book l.book l.fn.self.lanes.now l.self.lanes.now;
  same_lanes : l.self.lanes.ghost_name ≡ l.fn.self.lanes.ghost_name;
}
