use Rattle.std.proofs.Common.{◌≡◌, ◌≤◌, take}
use Rattle.port_rounds.specs.Lanes.{open_count}
use Rattle.port_rounds.proofs.seats.count_open.Given as goal

abbrev pub invariant-loop-lane : goal.invariant-loop-lane
invariant-loop-lane g l = record { count : l.open ≡ open_count g.P.Port.state (take l.lane-index l.lanes); few : l.open ≤ l.lane-index }
