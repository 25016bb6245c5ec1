use Rattle.std.proofs.Common.{◌≤◌, length, vec_len, vec_capacity}
use Rattle.forest_run.proofs.NewWires.{SomeLanes}
use Rattle.forest_run.proofs.lines.open_lanes.Given as goal

abbrev pub invariant-loop-line : goal.invariant-loop-line
invariant-loop-line g l = record {
  some : SomeLanes g.L.Line.state l.cut l.fn.lines.items l.lanes.items l.lines.items;
  room : length l.fn.lines.items ≤ vec_capacity l.lanes;
  capacity : length l.fn.lines.items ≤ vec_capacity l.lines;
}

abbrev pub decreases-loop-line : goal.decreases-loop-line
decreases-loop-line g l = vec_len l.lines
