use Rattle.std.proofs.Common.{◌≡◌, ℕ, List, length, get_or, map}
use Rattle.shard_scans.specs.declared.live.LiveLink.{LiveLink}
use Rattle.shard_scans.specs.Scanning.{AreBestUpTo}
use Rattle.shard_scans.specs.Live.{places_of, AreLiveLinks, relabelled}
use Rattle.shard_scans.proofs.live.keep_all.Given as goal

-- all links before the next live index were scanned
abbrev pub invariant-loop-i : goal.invariant-loop-i
invariant-loop-i g l = record {
  size : length l.table ≡ length l.initial.table;
  best : (count : ℕ) (labels : List ℕ) (live : List LiveLink) → AreLiveLinks l.links labels live → l.live ≡ map (relabelled labels) live
      → AreBestUpTo count l.links labels 0 0 l.initial.table → AreBestUpTo count l.links labels 0 (get_or (places_of live) l.i (length l.links)) l.table;
}
