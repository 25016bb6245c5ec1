use Rattle.std.proofs.Common.{◌≡◌, ◌+◌, ◌*◌, length, arith}
use Rattle.frames.proofs.CoarserLabels.{other_length}
use Rattle.frames.proofs.next_frame.read_behind.Goals.{else-head-eq3-via-then-head-eq3+else-head-last, else-head-eq3-via-else-head-eq3}
use Rattle.frames.proofs.next_frame.read_behind.Goals as goal

pub returns-clause-coarser : goal.returns-clause-coarser
returns-clause-coarser g c = search (arith, else-head-eq3-via-then-head-eq3+else-head-last, else-head-eq3-via-else-head-eq3, other_length)
