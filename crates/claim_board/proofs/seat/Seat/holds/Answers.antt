use Rattle.std.proofs.Common.{arith}
use Rattle.claim_board.proofs.Lists.{among_decides}
use Rattle.claim_board.proofs.seat.Seat.holds.Goals as goal

pub returns : goal.returns
returns c = search (arith, among_decides)
