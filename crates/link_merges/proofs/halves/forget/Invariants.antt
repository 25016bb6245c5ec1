use Rattle.std.proofs.Common.{◌≡◌, ◌≢◌, ℕ, ◌<◌, ◌≤◌, length}
use Rattle.link_merges.specs.Halves.{row_at, now_of}
use Rattle.link_merges.proofs.halves.forget.Given as goal

abbrev pub invariant-loop-row : goal.invariant-loop-row
invariant-loop-row l =
    (c : ℕ) → ((j : ℕ) → l.row-index ≤ j → j < length l.rows → (c ≢ (row_at l.rows j).first) × (c ≢ (row_at l.rows j).second)) → now_of l.now c ≡ c
