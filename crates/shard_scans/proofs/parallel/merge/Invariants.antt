use Rattle.shard_scans.proofs.Merging.{AreMerged}
use Rattle.shard_scans.proofs.parallel.merge.Given as goal

abbrev pub invariant-loop-i : goal.invariant-loop-i
invariant-loop-i g l = AreMerged l.fn.scanned.links.now l.fn.scanned.labels.now l.fn.first.from l.fn.second.from l.fn.second.to l.i l.table
