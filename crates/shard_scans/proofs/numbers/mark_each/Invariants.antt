use Rattle.std.proofs.Common.{◌≡◌, ℕ, ◌<◌, length, get_or}
use Rattle.shard_scans.specs.declared.live.LiveLink.{LiveLink}
use Rattle.shard_scans.specs.Numbers.{marks_of, AreBothMarked}
use Rattle.shard_scans.proofs.numbers.mark_each.Given as goal

abbrev pub invariant-loop-link : goal.invariant-loop-link
invariant-loop-link g l = record {
  words : length l.numbers ≡ length l.initial.numbers;
  marked : (k : ℕ) (d : LiveLink) → k < l.link-index → AreBothMarked (marks_of l.numbers) (get_or l.live k d);
}
