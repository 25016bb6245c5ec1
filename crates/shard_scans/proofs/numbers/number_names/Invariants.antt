use Rattle.std.proofs.Common.{◌≡◌, ℕ, ◌<◌, get_or}
use Rattle.shard_scans.specs.Numbers.{marks_of, number_of, HasItsName, new_name}
use Rattle.shard_scans.proofs.numbers.number_names.Given as goal

abbrev pub invariant-loop-i : goal.invariant-loop-i
invariant-loop-i g l = record {
  numbered : (k : ℕ) → k < l.i → get_or l.changed k 0 ≡ number_of (marks_of l.numbers) (new_name l.labels (get_or l.old k 0));
  named : (k : ℕ) → k < l.i → HasItsName (marks_of l.numbers) l.names (new_name l.labels (get_or l.old k 0));
}
