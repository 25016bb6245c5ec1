use Rattle.std.proofs.Common.{◌≡◌, ℕ, ◌<◌, List, get_or, length}
use Rattle.std.specs.Int.{w32, to_be_bytes}
use Rattle.links.proofs.labellings.spell_each.Given as goal

abbrev pub invariant-loop-i : goal.invariant-loop-i
invariant-loop-i l = record {
  room : length l.cells ≡ length l.labels;
  spelled : (k : ℕ) (d : List ℕ) → k < l.i → get_or l.cells k d ≡ to_be_bytes w32 (get_or l.labels k 0);
}
