use Rattle.std.specs.List.{AllZip}
use Rattle.std.proofs.Common.{arith, ◌≡◌, ◌∙◌, ap, sym, ◌++◌, length}
use Rattle.std.specs.Prelude.{All}
use Rattle.claim_board.specs.State.{AreSeats, IsUnusedSeat}
use Rattle.port_rounds.specs.Lanes.{seats_of}
use Rattle.port_rounds.specs.Seating.{GainsSeat, LosesSeat, LosesAnswers}
use Rattle.port_rounds.specs.Taking.{with_answers}
use Rattle.port_rounds.proofs.Eaches.{each_at, each_length, each_then, each_map}
use Rattle.port_rounds.proofs.Dealing.{all_dealt}
use Rattle.port_rounds.proofs.Seated.{ready_all, SameSeat, are_seats_then, same_seats, kept_apart}
use Rattle.port_rounds.proofs.Passing.{SamePort, same_kept, passed_of}
use Rattle.port_rounds.proofs.pass.run_ferries.Goals as goal

pub run-requires-clause-ready : goal.run-requires-clause-ready
run-requires-clause-ready g c κs within =
    let dealt = all_dealt c.args.row.items c.seat_lanes.new.row.items (seats_of c.seat_lanes.new.lanes) c.seat_lanes.ensures.seats
    (let n = c.seat_lanes.ensures.count in let o = c.requires.one_each in let a = c.requires.seats.all in omega arith) in
    let fresh : All (IsUnusedSeat c.args.board) (seats_of c.seat_lanes.new.lanes) = rw dealt.1 c.requires.fresh in
    ready_all g.P.Port.state c.args.board c.args.book.now c.args.lanes.now c.seat_lanes.new.lanes c.requires.bound c.requires.idle c.requires.room c.seat_lanes.ensures.lanes fresh

pub unseat_lanes-requires : goal.unseat_lanes-requires
unseat_lanes-requires g c =
    let dealt = all_dealt c.args.row.items c.seat_lanes.new.row.items (seats_of c.seat_lanes.new.lanes) c.seat_lanes.ensures.seats
    (let n = c.seat_lanes.ensures.count in let o = c.requires.one_each in let a = c.requires.seats.all in omega arith) in
    let n = each_length SameSeat _ _ (same_seats g.P.Port c.args.book.now _ _ c.run.ensures) in
    let m = ap length dealt.1 in
    let none = ap length dealt.0 in
    let same = c.seat_lanes.ensures.capacity in
    record { room = omega arith }

pub close-requires : goal.close-requires
close-requires g c =
    let dealt = all_dealt c.args.row.items c.seat_lanes.new.row.items (seats_of c.seat_lanes.new.lanes) c.seat_lanes.ensures.seats
    (let n = c.seat_lanes.ensures.count in let o = c.requires.one_each in let a = c.requires.seats.all in omega arith) in
    let back : c.unseat_lanes.new.row.items ≡ seats_of c.run.new.lanes = c.unseat_lanes.ensures.seats ∙ ap (λ xs. xs ++ seats_of c.run.new.lanes) dealt.0 in
    let are : AreSeats c.args.board (seats_of c.seat_lanes.new.lanes) = rw dealt.1 c.requires.seats in
    record { seats = rw back (are_seats_then c.args.board _ _ are (same_seats g.P.Port c.args.book.now _ _ c.run.ensures)) }

pub take_answers-requires : goal.take_answers-requires
take_answers-requires g c =
    let dealt = all_dealt c.args.row.items c.seat_lanes.new.row.items (seats_of c.seat_lanes.new.lanes) c.seat_lanes.ensures.seats
    (let n = c.seat_lanes.ensures.count in let o = c.requires.one_each in let a = c.requires.seats.all in omega arith) in
    let back : c.unseat_lanes.new.row.items ≡ seats_of c.run.new.lanes = c.unseat_lanes.ensures.seats ∙ ap (λ xs. xs ++ seats_of c.run.new.lanes) dealt.0 in
    record {
      taken = rw (same_kept c.run.new.lanes c.unseat_lanes.new.lanes c.unseat_lanes.ensures.lanes)
          (kept_apart g.P.Port c.args.book.now c.seat_lanes.new.lanes c.run.new.lanes c.unseat_lanes.new.row.items c.run.ensures back c.close.ensures.apart).1;
    }

pub returns-clause-went : goal.returns-clause-went
returns-clause-went g c =
    let value = c.args.book.now in
    let dealt = all_dealt c.args.row.items c.seat_lanes.new.row.items (seats_of c.seat_lanes.new.lanes) c.seat_lanes.ensures.seats
    (let n = c.seat_lanes.ensures.count in let o = c.requires.one_each in let a = c.requires.seats.all in omega arith) in
    let back : c.unseat_lanes.new.row.items ≡ seats_of c.run.new.lanes = c.unseat_lanes.ensures.seats ∙ ap (λ xs. xs ++ seats_of c.run.new.lanes) dealt.0 in
    let apart = kept_apart g.P.Port value c.seat_lanes.new.lanes c.run.new.lanes c.unseat_lanes.new.row.items c.run.ensures back c.close.ensures.apart in
    let before : AllZip SamePort c.args.lanes.now c.seat_lanes.new.lanes = each_map (GainsSeat g.P.Port.state) SamePort (λ x y r. record { port = r.port }) _ _ c.seat_lanes.ensures.lanes in
    let after : AllZip SamePort c.run.new.lanes c.take_answers.new.lanes =
    each_then LosesSeat LosesAnswers SamePort (λ x y z r s. record { port = s.port ∙ r.port }) _ _ _ c.unseat_lanes.ensures.lanes c.take_answers.ensures.lanes in
    passed_of g.P.Port value c.take_answers.new.book c.args.lanes.now c.seat_lanes.new.lanes c.run.new.lanes c.take_answers.new.lanes before c.run.ensures after apart.0 apart.1
    (c.take_answers.ensures.value ∙ ap (with_answers value) (same_kept c.run.new.lanes c.unseat_lanes.new.lanes c.unseat_lanes.ensures.lanes))

pub returns-clause-idle : goal.returns-clause-idle
returns-clause-idle g c i d below =
    let long : length c.unseat_lanes.new.lanes ≡ length c.take_answers.new.lanes = sym (each_length LosesAnswers _ _ c.take_answers.ensures.lanes) in
    let more : length c.run.new.lanes ≡ length c.unseat_lanes.new.lanes = sym (each_length LosesSeat _ _ c.unseat_lanes.ensures.lanes) in
    let k = each_at LosesAnswers _ _ c.take_answers.ensures.lanes i d (omega arith) in
    let s = each_at LosesSeat _ _ c.unseat_lanes.ensures.lanes i d (omega arith) in
    record { no_seat = k.seat ∙ s.seat; none_kept = k.none_kept }
