use Rattle.std.proofs.Common.{◌-◌}
use Rattle.frames.specs.NextFrame.{AreCoarserUpTo}
use Rattle.frames.proofs.next_frame.are_coarser_behind.Given as goal

abbrev pub invariant-loop-v : goal.invariant-loop-v
invariant-loop-v l = AreCoarserUpTo l.last l.numbers (l.v - 1)
