use Rattle.std.proofs.Common.{refl, ◌≤◌, arith}
use Rattle.std.proofs.lemmas.List.Elements.{All-cons}
use Rattle.port_rounds.specs.Seating.{GainsRoom}
use Rattle.port_rounds.proofs.Eaches.{each_cons, each_refl}
use Rattle.port_rounds.proofs.seats.+reserve_answers.Goals as goal

pub returns-in_err-reserve_lane-clause-lanes : goal.returns-in_err-reserve_lane-clause-lanes
returns-in_err-reserve_lane-clause-lanes g t c = search (arith, each_cons, each_refl)

pub returns-in_err-reserve_answers-clause-lanes : goal.returns-in_err-reserve_answers-clause-lanes
returns-in_err-reserve_answers-clause-lanes g t c = search (arith, each_cons)

pub returns-in_ok-reserve_answers-clause-lanes : goal.returns-in_ok-reserve_answers-clause-lanes
returns-in_ok-reserve_answers-clause-lanes g t c = search (arith, each_cons)

pub returns-in_ok-reserve_answers-clause-room : goal.returns-in_ok-reserve_answers-clause-room
returns-in_ok-reserve_answers-clause-room g t c = search arith
