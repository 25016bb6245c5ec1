use Rattle.std.proofs.Common.{◌≡◌, ℕ, ◌<◌, List, get_or, length}
use Rattle.std.specs.Int.{w32, from_be_bytes}
use Rattle.frames.proofs.next_frame.read_cells.Given as goal

abbrev pub invariant-loop-i : goal.invariant-loop-i
invariant-loop-i l = record {
  room : length l.numbers ≡ length l.cells;
  read : (k : ℕ) (d : List ℕ) → k < l.i → get_or l.numbers k 0 ≡ from_be_bytes w32 (get_or l.cells k d);
}
