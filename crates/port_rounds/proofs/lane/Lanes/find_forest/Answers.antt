use Rattle.std.proofs.Common.{◌≡◌, ◌+◌, ℕ, arith}
use Rattle.std.proofs.lemmas.Result.{err_from_is_err_and}
use Rattle.port_rounds.specs.Lanes.{open_count}
use Rattle.port_rounds.proofs.Ending.{rounds_few, finish_fault, solved}
use Rattle.port_rounds.proofs.lane.Lanes.find_forest.Goals as goal

pub returns-in_err-solver-clause-fault : goal.returns-in_err-solver-clause-fault
returns-in_err-solver-clause-fault g c = search (arith, err_from_is_err_and)

pub finish_par-requires-clause-ends : goal.finish_par-requires-clause-ends
finish_par-requires-clause-ends g c κs within = rw c.in_ok-solver.ensures.went.1.vertices_are c.requires.can.ends

pub returns-in_err-forest-clause-fault : goal.returns-in_err-forest-clause-fault
returns-in_err-forest-clause-fault g c =
    let answered = err_from_is_err_and c.from_residual-in_err-forest.result c.from_residual-in_err-forest.ensures.1 in
    rw (answered.1, answered.2)
    (finish_fault g.P.Port c.args.n c.args.cut.now c.args.self.now.lanes.now c.merge_rounds.new.self.lanes.now c.in_ok-solver.solver c.in_ok-solver.ensures.went.0 c.in_ok-solver.alone
    c.in_err-forest.field-0.0 c.requires.can.ends c.in_ok-solver.ensures.went.1 c.in_err-forest.ensures.fault)

pub overflow_sub-counts : goal.overflow_sub-counts
overflow_sub-counts g c = search arith

pub report_of-report-requires-clause-few : goal.report_of-report-requires-clause-few
report_of-report-requires-clause-few g c = search (arith, rounds_few)

pub returns-clause-went : goal.returns-clause-went
returns-clause-went g c =
    let answered : ℕ = c.in_ok-solver.ensures.went.0 in
    let went = c.in_ok-solver.ensures.went.1 in
    let fewer = went.went.rounds.never_opened in
    let rounds : c.report_of-report.result.rounds ≡ c.in_ok-solver.solver.rounds = omega arith in
    let opened = c.count_open-open.ensures.count in
    let counted = c.count_open.ensures.count in
    let closed : open_count g.P.Port.state c.merge_rounds.new.self.lanes.now + c.report_of-report.result.closed ≡ open_count g.P.Port.state c.args.self.now.lanes.now = omega arith in
    solved g.P.Port c.args.n c.args.cut.now c.args.self.now.lanes.now c.merge_rounds.new.self.lanes.now c.in_ok-solver.solver answered c.in_ok-solver.alone
    c.in_ok-forest.forest c.report_of-report.result c.requires.can.ends
    went c.in_ok-forest.ensures.forest c.report_of-report.ensures.report rounds c.report_of-report.ensures.alone closed
