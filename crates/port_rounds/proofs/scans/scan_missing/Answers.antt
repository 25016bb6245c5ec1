use Rattle.std.proofs.Common.{rules, arith, ◌≡◌, true}
use Rattle.round_core.specs.BookValue.{is_taken}
use Rattle.port_rounds.proofs.Scanning.{scanned_then, scanned_long, scanned_cut, stays_taken, all_taken, round_after}
use borrow.Author.Count.{below_more}
use Rattle.port_rounds.specs.Scanned.{ScansShards}
use Rattle.port_rounds.proofs.scans.scan_missing.Goals as goal
use Rattle.port_rounds.proofs.scans.scan_missing.Goals.{then-is_missing+in_ok-scan_shard, else-is_missing}

pub is_missing-requires : goal.is_missing-requires
is_missing-requires g c =
    let e = scanned_cut _ _ _ c.loop-shard.invariant.scanned in
    rw e (omega arith)

pub scan_shard-requires-clause-shard : goal.scan_shard-requires-clause-shard
scan_shard-requires-clause-shard g c κs within =
    let e = scanned_cut _ _ _ c.loop-shard.invariant.scanned in
    rw e (omega arith)

pub scan_shard-requires-clause-round : goal.scan_shard-requires-clause-round
scan_shard-requires-clause-round g c κs within = search (arith, round_after)

pub loop-shard-preserved : goal.loop-shard-preserved
loop-shard-preserved g c = search (arith, then-is_missing+in_ok-scan_shard, scanned_then, stays_taken, else-is_missing)

pub returns-clause-all : goal.returns-clause-all
returns-clause-all g c =
    let e = scanned_long _ _ _ c.loop-shard.invariant.scanned in
    all_taken _ (λ k b. c.loop-shard.invariant.done k (omega arith))
