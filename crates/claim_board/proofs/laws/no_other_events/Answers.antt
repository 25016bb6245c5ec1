use Rattle.claim_board.proofs.Held.{no_other_events}
use Rattle.claim_board.proofs.laws.no_other_events.Goals as goal

pub returns : goal.returns
returns c = no_other_events
