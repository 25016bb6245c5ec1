use Rattle.std.proofs.Common.{length, ap, arith, refl, ◌∙◌}
use Rattle.std.proofs.lemmas.Result.{err_from_is_err_and}
use Rattle.port_rounds.proofs.Ending.{asked_none, so_far_none, can_more, alone_few, turned_more, turned_last, turn_fault, asked_then}
use Rattle.port_rounds.proofs.lane.Lanes.merge_rounds.Goals as goal
use Rattle.port_rounds.proofs.lane.Lanes.merge_rounds.Goals.{in-None, in-Some+in_ok-turn+in-Done}

pub loop-init : goal.loop-init
loop-init g c = record {
  so_far = so_far_none g.P.Port c.args.n c.args.cut.now c.args.self.now.lanes.now c.in_ok-solver.solver c.in_ok-solver.ensures;
  same_lanes = refl;
  none = λ i d lt. absurd (omega (arith, lt, ap length c.empty-picks.ensures));
}

pub returns-in_err-solver-clause-ports : goal.returns-in_err-solver-clause-ports
returns-in_err-solver-clause-ports g c = asked_none g.P.Port c.args.n c.args.cut.now c.args.self.now.lanes.now

pub step_once-requires-clause-can : goal.step_once-requires-clause-can
step_once-requires-clause-can g c κs within = search (arith, can_more)

pub returns-in_err-turn-clause-ports : goal.returns-in_err-turn-clause-ports
returns-in_err-turn-clause-ports g c = search (arith, asked_then)

pub returns-in_err-turn-clause-fault : goal.returns-in_err-turn-clause-fault
returns-in_err-turn-clause-fault g c =
    let answered = err_from_is_err_and c.from_residual-in_err-turn.result c.from_residual-in_err-turn.ensures.1 in
    rw (answered.1, answered.2)
    (turn_fault g.P.Port c.args.n c.args.cut.now c.args.self.now.lanes.now c.loop.self.lanes.now c.step_once.new.self.lanes.now c.loop.solver c.loop.alone c.in_err-turn.field-0.0 c.requires.can.ends
    c.loop.invariant.so_far c.in_err-turn.ensures.fault)

pub overflow_add-alone : goal.overflow_add-alone
overflow_add-alone g c = search (arith, alone_few)

pub loop-preserved : goal.loop-preserved
loop-preserved g c = search (arith, turned_more)

pub returns-clause-went : goal.returns-clause-went
returns-clause-went g c = elim c.match-next.branch [
  | in-None w ↦ absurd (let some = rw w.in-None.is at c.next.ensures.steps in cc)
  | in-Some+in_ok-turn+in-Done w ↦ rw (w.self-is, w.solver-is, w.alone-is, w.from-alone.ensures)
      (turned_last g.P.Port c.args.n c.args.cut.now c.args.self.now.lanes.now c.loop.self.lanes.now w.step_once.new.self.lanes.now c.loop.solver
      w.step_once.new.solver w.in_ok-turn.turn c.loop.alone w.in_ok-turn.scanned c.requires.can.ends
      c.loop.invariant.so_far w.in_ok-turn.ensures.went w.in-Done.is)
]

pub returns-clause-ports : goal.returns-clause-ports
returns-clause-ports g c = elim c.match-next.branch [
  | in-None w ↦ absurd (let some = rw w.in-None.is at c.next.ensures.steps in cc)
  | in-Some+in_ok-turn+in-Done w ↦ rw w.self-is
      (asked_then g.P.Port c.args.n c.args.cut.now c.args.self.now.lanes.now c.loop.self.lanes.now w.step_once.new.self.lanes.now c.loop.solver c.loop.alone
      c.loop.invariant.so_far w.step_once.ensures.ports)
]
