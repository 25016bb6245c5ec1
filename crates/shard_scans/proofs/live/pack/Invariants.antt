use Rattle.std.proofs.Common.{◌≡◌, ℕ, ◌≤◌, get_or, take}
use Rattle.shard_scans.specs.declared.live.LiveLink.{LiveLink}
use Rattle.shard_scans.specs.Live.{packed}
use Rattle.shard_scans.proofs.live.pack.Given as goal

-- the live links so far that stay are at the front, and the rest are as they were
abbrev pub invariant-loop-i : goal.invariant-loop-i
invariant-loop-i l = record {
  count : l.kept ≤ l.i;
  front : take l.kept l.live ≡ packed l.labels (take l.i l.initial.live);
  rest : (k : ℕ) (d : LiveLink) → l.i ≤ k → get_or l.live k d ≡ get_or l.initial.live k d;
}
