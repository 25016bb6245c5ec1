use Rattle.shard_scans.proofs.Written.{kept_coarser}
use Rattle.shard_scans.proofs.laws.live_under_coarser.Goals as goal

pub returns : goal.returns
returns c = kept_coarser
