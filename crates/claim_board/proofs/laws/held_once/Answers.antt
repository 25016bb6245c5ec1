use Rattle.claim_board.proofs.Held.{held_once}
use Rattle.claim_board.proofs.laws.held_once.Goals as goal

pub returns : goal.returns
returns c = held_once
