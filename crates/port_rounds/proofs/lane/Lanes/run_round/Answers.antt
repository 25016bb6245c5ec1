use Rattle.std.proofs.Common.{arith}
use Rattle.port_rounds.proofs.Lasting.{round_stays}
use Rattle.port_rounds.proofs.lane.Lanes.run_round.Goals as goal

pub scan_missing-requires-clause-round : goal.scan_missing-requires-clause-round
scan_missing-requires-clause-round g c κs within = search (arith, round_stays)
