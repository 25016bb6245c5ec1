use Rattle.std.proofs.Common.{◌≡◌, ℕ, ◌<◌, ◌++◌, take, drop, map, get_or}
use Rattle.shard_scans.specs.declared.live.LiveLink.{LiveLink}
use Rattle.shard_scans.specs.Numbers.{marks_of, numbered, AreBothNamed}
use Rattle.shard_scans.proofs.numbers.number_each.Given as goal

-- those so far are written with numbers, and the others are as they were
abbrev pub invariant-loop-i : goal.invariant-loop-i
invariant-loop-i g l = record {
  numbered : l.live ≡ map (numbered (marks_of l.numbers)) (take l.i l.initial.live) ++ drop l.i l.initial.live;
  named : (k : ℕ) (d : LiveLink) → k < l.i → AreBothNamed (marks_of l.numbers) l.names (get_or l.initial.live k d);
}
