-- The lines of the first edges are at the start of the buffer.
use Rattle.std.proofs.Common.{◌≡◌, ◌-◌, ◌*◌, ◌≤◌, length, take}
use Rattle.std.specs.List.{flat_map}
use Rattle.gr_text.specs.ForestText.{link_line}
use Rattle.gr_text.proofs.spelled.spell_lines.Given as goal

abbrev pub invariant-loop-count : goal.invariant-loop-count
invariant-loop-count l = record {
  within : l.count ≤ length l.links;
  fit : l.bytes ≤ length l.room;
  short : l.bytes ≤ l.count * 64;
  lines : take l.bytes l.room ≡ flat_map link_line (take l.count l.links);
}

abbrev pub decreases-loop-count : goal.decreases-loop-count
decreases-loop-count l = length l.links - l.count
