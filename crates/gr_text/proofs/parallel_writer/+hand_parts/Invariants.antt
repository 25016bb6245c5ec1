use Rattle.std.proofs.Common.{length}
use Rattle.gr_text.proofs.parallel_writer.+hand_parts.Given as goal

abbrev pub decreases-hand_parts : goal.decreases-hand_parts
decreases-hand_parts g l = length l.bytes.now
