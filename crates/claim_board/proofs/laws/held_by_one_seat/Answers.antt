use Rattle.claim_board.proofs.Held.{held_by_one_seat}
use Rattle.claim_board.proofs.laws.held_by_one_seat.Goals as goal

pub returns : goal.returns
returns c = held_by_one_seat
