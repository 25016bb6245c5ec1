use Rattle.claim_board.proofs.Held.{handed_on_is}
use Rattle.claim_board.proofs.laws.handed_on.Goals as goal

pub returns : goal.returns
returns c = handed_on_is
