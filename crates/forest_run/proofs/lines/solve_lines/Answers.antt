use Rattle.std.proofs.Common.{◌∙◌, length, ap, arith}
use Rattle.std.proofs.lemmas.Result.{err_from_is_err_and}
use Rattle.forest_run.specs.WiredLines.{AreNewLanes, lines_of}
use Rattle.forest_run.proofs.NewWires.{new_cut, new_counts, written_back, solve_fault, solve_went, served_honest}
use Rattle.forest_run.proofs.lines.solve_lines.Goals as goal

pub solve-requires-clause-cut : goal.solve-requires-clause-cut
solve-requires-clause-cut g c κs within = rw c.deref_mut.ensures.value (new_cut c.args.lines.items c.args.cut.now c.in_ok-lanes.lanes.items c.in_ok-lanes.ensures.lanes)

pub solve-requires-clause-counts : goal.solve-requires-clause-counts
solve-requires-clause-counts g c κs within = rw c.deref_mut.ensures.value (new_counts c.args.lines.items c.args.cut.now c.in_ok-lanes.lanes.items c.in_ok-lanes.ensures.lanes)

pub solve-requires-clause-idle : goal.solve-requires-clause-idle
solve-requires-clause-idle g c κs within = rw c.deref_mut.ensures.value c.in_ok-lanes.ensures.lanes.idle

pub returns-in_err-forest-clause-fault : goal.returns-in_err-forest-clause-fault
returns-in_err-forest-clause-fault g c =
    let answered = err_from_is_err_and c.from_residual-in_err-forest.result c.from_residual-in_err-forest.ensures.1 in
    let new : AreNewLanes c.args.lines.items c.args.cut.now c.deref_mut.result.now = rw c.deref_mut.ensures.value c.in_ok-lanes.ensures.lanes in
    rw (answered.1, answered.2) (solve_fault g.L.Line c.args.n c.args.cut.now c.args.lines.items c.deref_mut.result.now c.solve.new.lanes new c.in_err-forest.field-0.0 c.in_err-forest.ensures.fault)

pub returns-in_err-forest-clause-served : goal.returns-in_err-forest-clause-served
returns-in_err-forest-clause-served g c =
    let answered = err_from_is_err_and c.from_residual-in_err-forest.result c.from_residual-in_err-forest.ensures.1 in
    let new : AreNewLanes c.args.lines.items c.args.cut.now c.deref_mut.result.now = rw c.deref_mut.ensures.value c.in_ok-lanes.ensures.lanes in
    rw (answered.1, answered.2) (λ served. c.in_err-forest.ensures.honest_fault (served_honest g.L.Line c.args.lines.items c.args.cut.now c.deref_mut.result.now new served))

pub close_lanes-requires-clause-room : goal.close_lanes-requires-clause-room
close_lanes-requires-clause-room g c =
    let new : AreNewLanes c.args.lines.items c.args.cut.now c.in_ok-lanes.lanes.items = c.in_ok-lanes.ensures.lanes in
    let same = c.in_ok-forest.ensures.went.went.rounds.ports.same_lanes in
    let before = ap (λ xs. length xs) c.deref_mut.ensures.value in
    rw (written_back c.in_ok-lanes.lanes.len c.in_ok-lanes.lanes.items c.solve.new.lanes (omega (arith, same, before, c.in_ok-lanes.lanes.ok.0)))
    (omega (arith, same, before, new.number, c.in_ok-lanes.ensures.capacity))

pub returns-clause-went : goal.returns-clause-went
returns-clause-went g c =
    let new : AreNewLanes c.args.lines.items c.args.cut.now c.deref_mut.result.now = rw c.deref_mut.ensures.value c.in_ok-lanes.ensures.lanes in
    let same = c.in_ok-forest.ensures.went.went.rounds.ports.same_lanes in
    let before = ap (λ xs. length xs) c.deref_mut.ensures.value in
    let back = written_back c.in_ok-lanes.lanes.len c.in_ok-lanes.lanes.items c.solve.new.lanes (omega (arith, same, before, c.in_ok-lanes.lanes.ok.0)) in
    solve_went g.L.Line c.args.n c.args.cut.now c.args.lines.items c.deref_mut.result.now c.solve.new.lanes new c.in_ok-forest.forest c.in_ok-forest.report
    c.close_lanes.new.lines.items c.in_ok-forest.ensures.went
    (c.close_lanes.ensures.lines ∙ ap (λ xs. lines_of xs) back)
