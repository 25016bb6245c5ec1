use Rattle.std.proofs.Common.{◌≡◌, ℕ, ◌<◌, ◌≤◌, get_or, length}
use Rattle.links.proofs.labellings.rename_each.Given as goal

abbrev pub invariant-loop-i : goal.invariant-loop-i
invariant-loop-i l = record {
  room : length l.labels ≡ length l.initial.labels;
  renamed : (k : ℕ) → k < l.i → get_or l.labels k 0 ≡ get_or l.names (get_or l.initial.labels k 0) 0;
  left : (k : ℕ) → l.i ≤ k → get_or l.labels k 0 ≡ get_or l.initial.labels k 0;
}
