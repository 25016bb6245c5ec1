use Rattle.std.proofs.Common.{◌≡◌, ℕ, ◌<◌, ◌≤◌}
use Rattle.link_merges.specs.Halves.{row_at, now_of}
use Rattle.link_merges.proofs.halves.move_on.Given as goal

abbrev pub invariant-loop-row : goal.invariant-loop-row
invariant-loop-row l = record {
  moved : (j : ℕ) → j < l.row-index
      → ((row_at l.row-items j).first ≡ now_of l.now (row_at l.fn.rows j).first) × ((row_at l.row-items j).second ≡ now_of l.now (row_at l.fn.rows j).second);
  kept : (j : ℕ) → l.row-index ≤ j → row_at l.row-items j ≡ row_at l.fn.rows j;
}
