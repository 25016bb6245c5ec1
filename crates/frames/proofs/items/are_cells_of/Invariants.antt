use Rattle.std.proofs.Common.{◌≡◌, ℕ, ◌<◌, List, get_or, IsTrue}
use Rattle.std.specs.Prelude.{◌↔◌}
use Rattle.std.specs.Int.{w32, from_be_bytes}
use Rattle.frames.proofs.items.are_cells_of.Given as goal

abbrev pub invariant-loop-i : goal.invariant-loop-i
invariant-loop-i l = IsTrue l.same ↔ ((k : ℕ) (d : List ℕ) → k < l.i → from_be_bytes w32 (get_or l.cells k d) ≡ get_or l.numbers k 0)
