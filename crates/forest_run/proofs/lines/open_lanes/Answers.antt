use Rattle.std.proofs.Common.{◌≡◌, ◌<◌, [], length, rules, arith}
use Rattle.wires.specs.Wires.{IsNewWire}
use Rattle.forest_run.proofs.NewWires.{no_lanes, lane_more, next_room, lanes_number}
use Rattle.forest_run.proofs.lines.open_lanes.Goals as goal

pub loop-line-init : goal.loop-line-init
loop-line-init g c =
    let none : c.in_ok-lanes.lanes.items ≡ [] = c.in_ok-lanes.ensures.items in
    record {
      some =
          rw none (no_lanes g.L.Line.state c.args.cut.now c.args.lines.now.items c.reverse.new.self.items c.reverse.ensures.items c.requires.room);
      room = search (rules, arith);
      capacity = search (rules, arith);
    }

pub overflow_cast-worker : goal.overflow_cast-worker
overflow_cast-worker g c = search (arith, lanes_number)

pub new-requires-clause-worker : goal.new-requires-clause-worker
new-requires-clause-worker g c =
    let number = lanes_number g.L.Line.state c.args.cut.now c.args.lines.now.items c.loop-line.lanes.items c.loop-line.lines.items c.loop-line.invariant.some in
    let some : 0 < length c.loop-line.lines.items = search (rules, arith) in
    omega (arith, number, some, c.requires.few, c.len-worker.ensures, c.loop-line.lanes.ok.0)

pub new-requires-clause-room : goal.new-requires-clause-room
new-requires-clause-room g c =
    next_room g.L.Line.state c.args.cut.now c.args.lines.now.items c.loop-line.lanes.items c.loop-line.lines.items c.pop.new.self.items c.in-Some.line
    c.in-Some.ensures.items c.loop-line.invariant.some

pub push_reserved-requires : goal.push_reserved-requires
push_reserved-requires g c =
    let number = lanes_number g.L.Line.state c.args.cut.now c.args.lines.now.items c.loop-line.lanes.items c.loop-line.lines.items c.loop-line.invariant.some in
    let some : 0 < length c.loop-line.lines.items = search (rules, arith) in
    omega (arith, number, some, c.loop-line.invariant.room, c.loop-line.lanes.ok.0)

pub loop-line-preserved : goal.loop-line-preserved
loop-line-preserved g c =
    let at : c.len-worker.result ≡ length c.loop-line.lanes.items = omega (arith, c.len-worker.ensures, c.loop-line.lanes.ok.0) in
    let new : IsNewWire c.in-Some.line c.args.cut.now (length c.loop-line.lanes.items) c.new-in-Some.result.port =
    rw c.new-in-Some.ensures.port (rw at at c.new.ensures.new) in
    record {
      some = rw c.push_reserved.ensures.items
          (lane_more g.L.Line.state c.args.cut.now c.args.lines.now.items c.loop-line.lanes.items c.loop-line.lines.items c.pop.new.self.items c.in-Some.line
          c.new-in-Some.result c.in-Some.ensures.items new c.new-in-Some.ensures.idle
          c.loop-line.invariant.some);
      room = search (rules, arith);
      capacity = search (rules, arith);
    }
