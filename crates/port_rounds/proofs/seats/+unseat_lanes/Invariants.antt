use Rattle.std.proofs.Common.{length}
use Rattle.port_rounds.proofs.seats.+unseat_lanes.Given as goal

abbrev pub decreases-unseat_lanes : goal.decreases-unseat_lanes
decreases-unseat_lanes g l = length l.lanes.now
