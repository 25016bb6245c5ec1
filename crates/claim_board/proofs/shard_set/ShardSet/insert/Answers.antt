use Rattle.std.proofs.Common.{ℕ, ◌==◌, ◌||◌, List, ap, ◌∙◌}
use Rattle.claim_board.specs.Shards.{has_shard}
use Rattle.claim_board.proofs.Bits.{has-insert}
use Rattle.claim_board.proofs.shard_set.ShardSet.insert.Goals as goal

pub returns : goal.returns
returns c s = has-insert c.self.inside.bits c.args.shard s c.self.told c.requires ∙ ap (λ (bits : List ℕ). s == c.args.shard || has_shard bits s) c.self.view_is
