use Rattle.std.proofs.Common.{◌≡◌, ℕ, ◌<◌, length, get_or}
use Rattle.shard_scans.specs.Numbers.{marks_of, IsMarked, new_name}
use Rattle.shard_scans.proofs.numbers.mark_names.Given as goal

abbrev pub invariant-loop-i : goal.invariant-loop-i
invariant-loop-i g l = record {
  words : length l.numbers ≡ length l.initial.numbers;
  marked : (k : ℕ) → k < l.i → IsMarked (marks_of l.numbers) (new_name l.labels (get_or l.names k 0));
}
