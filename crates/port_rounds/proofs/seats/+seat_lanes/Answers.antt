use Rattle.std.proofs.Common.{rules, arith, ◌≡◌, ◌≤◌, ◌∙◌, List, ◌∷◌, ◌++◌, length, append-nil, refl, ap, sym, vec_len}
use Rattle.claim_board.specs.State.{SeatState}
use Rattle.port_rounds.specs.Lanes.{count_if, open_count}
use Rattle.port_rounds.specs.Seating.{GainsSeat}
use Rattle.port_rounds.proofs.Eaches.{each_cons, each_none}
use Rattle.port_rounds.proofs.Dealing.{no_first, none_dealt, open_cons, no_seat_head, no_seat_tail, taken_back}
use Rattle.port_rounds.proofs.seats.+seat_lanes.Goals as goal

pub seat_lanes-requires : goal.seat_lanes-requires
seat_lanes-requires g t c κs within =
    let o = open_cons g.P.Port.state c.args.lanes.now c.in-Some.lane.now c.in-Some.rest.now c.in-Some.ensures.cases.0 in
    let n = no_seat_tail c.args.lanes.now c.in-Some.lane.now c.in-Some.rest.now c.in-Some.ensures.cases.0 c.requires.none in
    let k : open_count g.P.Port.state c.in-Some.rest.now ≤ vec_len c.args.row.now = omega (arith, o, c.requires.some) in
    search (rules, k, n)

pub seat_lane-requires-clause-none : goal.seat_lane-requires-clause-none
seat_lane-requires-clause-none g t c = search (arith, no_seat_head)

pub seat_lane-requires-clause-some : goal.seat_lane-requires-clause-some
seat_lane-requires-clause-some g t c = search (arith, open_cons, vec_len)

pub returns-in-Some-clause-seats : goal.returns-in-Some-clause-seats
returns-in-Some-clause-seats g t c = search (arith, taken_back)

pub returns-in-Some-clause-lanes : goal.returns-in-Some-clause-lanes
returns-in-Some-clause-lanes g t c = search (arith, each_cons)

pub returns-in-Some-clause-count : goal.returns-in-Some-clause-count
returns-in-Some-clause-count g t c = search (arith, open_cons)

pub returns-in_default-clause-seats : goal.returns-in_default-clause-seats
returns-in_default-clause-seats g t c = search (arith, no_first, append-nil, none_dealt)

pub returns-in_default-clause-lanes : goal.returns-in_default-clause-lanes
returns-in_default-clause-lanes g t c = search (arith, each_none, no_first)

pub returns-in_default-clause-count : goal.returns-in_default-clause-count
returns-in_default-clause-count g t c = search (arith, no_first, none_dealt)
