use Rattle.std.proofs.Common.{List, ℕ, ◌+◌, refl, subst, arith}
use Rattle.round_theory.specs.Offers.{IsNamed}
use Rattle.round_core.specs.BookValue.{opened, hearings}
use Rattle.round_core.specs.Picks.{ArePicks}
use Rattle.port_rounds.specs.Rounds.{RunsRound}
use Rattle.port_rounds.proofs.Eaches.{each_refl}
use Rattle.port_rounds.proofs.Passing.{SamePort, passed_none}
use Rattle.port_rounds.proofs.Running.{opened_round, same_still}
use Rattle.port_rounds.proofs.Ending.{turn_asked}
use Rattle.port_rounds.proofs.lane.Lanes.picks_of_round.Goals as goal

pub run_round-requires-clause-round : goal.run_round-requires-clause-round
run_round-requires-clause-round g c κs within = search (arith, opened_round)

pub run_round-requires-clause-wide : goal.run_round-requires-clause-wide
run_round-requires-clause-wide g c κs within = rw (c.in_ok-book.ensures.opened, c.round.ensures.round, c.labels.ensures.labels) c.requires.can.wide

-- ---- what was asked, however the round ended

pub returns-in_err-book-clause-asked : goal.returns-in_err-book-clause-asked
returns-in_err-book-clause-asked g c =
    let value = opened c.round.result c.args.cut.now c.labels.result.now in
    turn_asked g.P.Port c.round.result c.args.cut.now c.labels.result.now c.args.solver.now value c.args.self.now.lanes.now c.args.self.now.lanes.now
    c.round.ensures.round c.labels.ensures.labels c.round.ensures.progress c.requires.can.ends c.requires.can.few_shards
    (passed_none g.P.Port value c.args.self.now.lanes.now c.args.self.now.lanes.now (each_refl SamePort c.args.self.now.lanes.now (λ x. record { port = refl })))

pub returns-in_err-alone-clause-asked : goal.returns-in_err-alone-clause-asked
returns-in_err-alone-clause-asked g c =
    let (middle, asked) = c.run_round.ensures.asked in
    turn_asked g.P.Port c.round.result c.args.cut.now c.labels.result.now c.args.solver.now middle c.args.self.now.lanes.now c.run_round.new.self.lanes.now
    c.round.ensures.round c.labels.ensures.labels c.round.ensures.progress c.requires.can.ends c.requires.can.few_shards
    (rw c.in_ok-book.ensures.opened at asked)

pub returns-clause-asked : goal.returns-clause-asked
returns-clause-asked g c =
    let (middle, asked) = c.run_round.ensures.asked in
    turn_asked g.P.Port c.round.result c.args.cut.now c.labels.result.now c.args.solver.now middle c.args.self.now.lanes.now c.run_round.new.self.lanes.now
    c.round.ensures.round c.labels.ensures.labels c.round.ensures.progress c.requires.can.ends c.requires.can.few_shards
    (rw c.in_ok-book.ensures.opened at asked)

-- ---- its picks

pub returns-clause-picked : goal.returns-clause-picked
returns-clause-picked g c = search (arith, same_still)
