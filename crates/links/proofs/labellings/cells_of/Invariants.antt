use Rattle.std.proofs.Common.{◌≡◌, ◌≤◌, length, map, take, vec_len, vec_capacity}
use Rattle.std.specs.Int.{w32, to_be_bytes}
use Rattle.links.proofs.labellings.cells_of.Given as goal

abbrev pub invariant-loop-label : goal.invariant-loop-label
invariant-loop-label g l = record {
  written : l.cells.items ≡ map (to_be_bytes w32) (take l.label-index l.labels);
  count : vec_len l.cells ≡ l.label-index;
  room : length l.labels ≤ vec_capacity l.cells;
}
