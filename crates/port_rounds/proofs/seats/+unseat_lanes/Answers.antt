use Rattle.std.proofs.Common.{rules, arith, ◌+◌, ◌≤◌, length, length-append, ap, vec_len}
use Rattle.std.specs.Prelude.{option_to_list, vec_capacity}
use Rattle.port_rounds.specs.Lanes.{seats_of}
use Rattle.port_rounds.specs.Seating.{LosesSeat}
use Rattle.port_rounds.proofs.Eaches.{each_cons}
use Rattle.port_rounds.proofs.Dealing.{taken_back, seats_cons}
use Rattle.port_rounds.proofs.seats.+unseat_lanes.Goals as goal

pub unseat_lane-requires : goal.unseat_lane-requires
unseat_lane-requires g t c = search (arith, seats_cons, vec_len)

pub unseat_lanes-requires : goal.unseat_lanes-requires
unseat_lanes-requires g t c = search (arith, seats_cons, length-append, vec_len)

pub returns-in-Some-clause-seats : goal.returns-in-Some-clause-seats
returns-in-Some-clause-seats g t c =
    taken_back c.args.lanes.now c.in-Some.lane.now c.in-Some.rest.now c.args.row.now.items c.unseat_lane.new.row.items c.unseat_lanes.new.row.items
    c.in-Some.ensures.cases.0 c.unseat_lane.ensures.row c.unseat_lanes.ensures.seats

pub returns-in-Some-clause-lanes : goal.returns-in-Some-clause-lanes
returns-in-Some-clause-lanes g t c = search (arith, each_cons)
