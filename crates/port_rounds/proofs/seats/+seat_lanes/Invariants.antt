use Rattle.std.proofs.Common.{length}
use Rattle.port_rounds.proofs.seats.+seat_lanes.Given as goal

abbrev pub decreases-seat_lanes : goal.decreases-seat_lanes
decreases-seat_lanes g l = length l.lanes.now
