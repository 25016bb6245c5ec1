use Rattle.std.proofs.Common.{◌≡◌, ◌+◌, ◌≤◌, ◌++◌, vec_len, vec_capacity}
use Rattle.std.specs.Prelude.{reverse}
use Rattle.forest_run.specs.WiredLines.{lines_of}
use Rattle.forest_run.proofs.lines.close_lanes.Given as goal

abbrev pub invariant-loop-lane : goal.invariant-loop-lane
invariant-loop-lane g l = record {
  split : lines_of l.fn.lanes.items ≡ l.lines.items ++ lines_of (reverse l.lanes.items);
  room : vec_len l.lines + vec_len l.lanes ≤ vec_capacity l.lines;
}

abbrev pub decreases-loop-lane : goal.decreases-loop-lane
decreases-loop-lane g l = vec_len l.lanes
