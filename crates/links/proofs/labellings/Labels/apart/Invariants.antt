use Rattle.std.proofs.Common.{◌≡◌, ℕ, ◌+◌, ◌<◌, length, get_or}
use Rattle.links.proofs.labellings.Labels.apart.Given as goal

abbrev pub invariant-loop-v : goal.invariant-loop-v
invariant-loop-v g l = record {
  len : length l.labels.items + 1 ≡ l.v;
  counts : (k : ℕ) → k < length l.labels.items → get_or l.labels.items k 0 ≡ k + 1;
}
