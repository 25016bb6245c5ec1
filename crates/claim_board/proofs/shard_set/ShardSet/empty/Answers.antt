use Rattle.claim_board.proofs.Bits.{has-empty}
use Rattle.claim_board.proofs.shard_set.ShardSet.empty.Goals as goal

pub returns : goal.returns
returns c = has-empty
