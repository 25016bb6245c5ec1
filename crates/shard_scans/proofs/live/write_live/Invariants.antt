use Rattle.shard_scans.proofs.Written.{AreWrittenBefore}
use Rattle.shard_scans.proofs.live.write_live.Given as goal

abbrev pub invariant-loop-place : goal.invariant-loop-place
invariant-loop-place g l = AreWrittenBefore l.links l.labels l.place l.live.items
