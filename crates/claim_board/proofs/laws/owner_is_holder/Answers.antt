use Rattle.claim_board.proofs.Held.{owner_is_holder}
use Rattle.claim_board.proofs.laws.owner_is_holder.Goals as goal

pub returns : goal.returns
returns c = owner_is_holder
