use Rattle.std.proofs.Common.{arith}
use Rattle.port_rounds.proofs.Eaches.{each_length}
use Rattle.port_rounds.proofs.Passing.{SamePort, same_asks, passed_none, passed_then}
use Rattle.port_rounds.proofs.Lasting.{room_same, room_idle, same_bound}
use Rattle.port_rounds.proofs.lane.Lanes.pass.Goals as goal

pub returns-in_err-reserve_answers-clause-went : goal.returns-in_err-reserve_answers-clause-went
returns-in_err-reserve_answers-clause-went g c = passed_none g.P.Port c.args.book.now _ _ (room_same _ _ c.reserve_answers.ensures.lanes)

pub invariant_of-self : goal.invariant_of-self
invariant_of-self g c = search (arith, each_length, room_same, room_idle)

pub open-requires-clause-seats : goal.open-requires-clause-seats
open-requires-clause-seats g c =
    let s = same_asks g.P.Port.state c.args.self.now.lanes.now c.reserve_answers.new.lanes (room_same _ _ c.reserve_answers.ensures.lanes) in
    let e = s.1 in
    let n = c.count_open.ensures.count in
    let l = each_length SamePort _ _ (room_same _ _ c.reserve_answers.ensures.lanes) in
    (omega arith, omega arith)

pub returns-in_default-clause-went : goal.returns-in_default-clause-went
returns-in_default-clause-went g c = passed_none g.P.Port c.args.book.now _ _ (room_same _ _ c.reserve_answers.ensures.lanes)

pub invariant_of-self-in_default : goal.invariant_of-self-in_default
invariant_of-self-in_default g c = search (arith, each_length, room_same, room_idle)

pub run_ferries-requires-clause-bound : goal.run_ferries-requires-clause-bound
run_ferries-requires-clause-bound g c κs within = search (arith, same_bound, room_same)

pub run_ferries-requires-clause-idle : goal.run_ferries-requires-clause-idle
run_ferries-requires-clause-idle g c κs within = room_idle c.args.self.now.lanes.now c.reserve_answers.new.lanes c.reserve_answers.ensures.lanes c.args.self.now.idle

pub returns-clause-went : goal.returns-clause-went
returns-clause-went g c = search (arith, passed_then, passed_none, room_same)
