use Rattle.std.proofs.Common.{◌≤◌}
use Rattle.shard_scans.specs.Scanning.{AreBest}
use Rattle.shard_scans.proofs.parallel.best_alone.Given as goal

abbrev pub invariant-loop-place : goal.invariant-loop-place
invariant-loop-place g l = record {
  from_start : l.fn.part.from ≤ l.place;
  best : AreBest l.fn.scanned.links.now l.fn.scanned.labels.now l.fn.part.from l.place l.table;
}
