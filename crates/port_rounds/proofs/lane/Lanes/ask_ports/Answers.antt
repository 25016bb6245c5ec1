use Rattle.std.proofs.Common.{refl, sym, ◌∙◌, arith}
use Rattle.port_rounds.proofs.Eaches.{each_refl}
use Rattle.port_rounds.proofs.Passing.{SamePort, passed_none, passed_then}
use Rattle.port_rounds.proofs.Lasting.{round_stays, bound_stays}
use Rattle.port_rounds.proofs.lane.Lanes.ask_ports.Goals as goal
use Rattle.port_rounds.proofs.lane.Lanes.ask_ports.Goals.{in-None, in-Some+then-missing-eq0, then-missing-eq0-via-then-missing-eq0, then-missing-eq0-via-else-missing-eq0+then-count_open-eq0}

pub loop-init : goal.loop-init
loop-init g c = search (arith, passed_none, each_refl)

pub pass-requires-clause-round : goal.pass-requires-clause-round
pass-requires-clause-round g c κs within = search (arith, round_stays)

pub pass-requires-clause-bound : goal.pass-requires-clause-bound
pass-requires-clause-bound g c κs within = search (arith, bound_stays)

pub loop-preserved : goal.loop-preserved
loop-preserved g c = search (arith, passed_then)

pub returns-in_err-pass-clause-went : goal.returns-in_err-pass-clause-went
returns-in_err-pass-clause-went g c = search (arith, passed_then)

pub returns-clause-went : goal.returns-clause-went
returns-clause-went g c = search (arith, in-None, in-Some+then-missing-eq0, then-missing-eq0-via-then-missing-eq0, then-missing-eq0-via-else-missing-eq0+then-count_open-eq0)

pub returns-clause-end : goal.returns-clause-end
returns-clause-end g c = search (arith, in-None, in-Some+then-missing-eq0, then-missing-eq0-via-then-missing-eq0, then-missing-eq0-via-else-missing-eq0+then-count_open-eq0)

pub returns-clause-same_lanes : goal.returns-clause-same_lanes
returns-clause-same_lanes g c = search (arith, in-None, in-Some+then-missing-eq0, then-missing-eq0-via-then-missing-eq0, then-missing-eq0-via-else-missing-eq0+then-count_open-eq0)
