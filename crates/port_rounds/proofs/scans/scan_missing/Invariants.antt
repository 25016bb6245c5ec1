use Rattle.std.proofs.Common.{◌≡◌, ◌≤◌, ◌<◌, ℕ, true}
use Rattle.round_core.specs.BookValue.{is_taken}
use Rattle.port_rounds.specs.Scanned.{ScansShards}
use Rattle.port_rounds.proofs.scans.scan_missing.Given as goal

abbrev pub invariant-loop-shard : goal.invariant-loop-shard
invariant-loop-shard g l = record {
  scanned : ScansShards l.fn.book l.book l.alone;
  done : (k : ℕ) → k < l.shard → is_taken l.book k ≡ true;
  few : l.alone ≤ l.shard;
}
