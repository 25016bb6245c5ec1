use Rattle.std.proofs.Common.{◌≡◌, ◌∙◌, ap, rules, arith}
use Rattle.forest_run.proofs.NewWires.{line_out}
use Rattle.forest_run.proofs.lines.close_lanes.Goals as goal

pub loop-lane-preserved : goal.loop-lane-preserved
loop-lane-preserved g c =
    let line : c.into_line.result ≡ c.in-Some.lane.port.client.line = c.into_line.ensures ∙ ap (λ w. w.client.line) c.into_port.ensures in
    record {
      split =
          rw (c.push_reserved.ensures.items, line)
          (line_out _ c.loop-lane.lines.items c.loop-lane.lanes.items c.pop.new.self.items c.in-Some.lane c.in-Some.ensures.items c.loop-lane.invariant.split);
      room = search (rules, arith);
    }
