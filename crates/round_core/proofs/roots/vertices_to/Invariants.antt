use Rattle.std.proofs.Common.{◌≡◌, ℕ, ◌+◌, ◌<◌, length, get_or}
use Rattle.round_core.proofs.roots.vertices_to.Given as goal

abbrev pub invariant-loop-v : goal.invariant-loop-v
invariant-loop-v g l = record {
  len : length l.vertices.items + 1 ≡ l.v;
  counts : (k : ℕ) → k < length l.vertices.items → get_or l.vertices.items k 0 ≡ k + 1;
}
