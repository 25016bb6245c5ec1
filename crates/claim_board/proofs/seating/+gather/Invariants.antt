use Rattle.std.proofs.Common.{length}
use Rattle.claim_board.proofs.seating.+gather.Given as goal

abbrev pub decreases-gather : goal.decreases-gather
decreases-gather g l = length l.seats.now.items
