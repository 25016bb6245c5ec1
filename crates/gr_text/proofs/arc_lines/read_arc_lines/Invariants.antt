-- the bytes so far are arc lines, and their edges are at the start of the buffer
use Rattle.std.proofs.Common.{◌≡◌, ℕ, List, ◌+◌, ◌≤◌, ◌++◌, length, take}
use Rattle.gr_text.specs.ArcLines.{AreArcLines}
use Rattle.gr_text.proofs.arc_lines.read_arc_lines.Given as goal

abbrev pub invariant-loop-link : goal.invariant-loop-link
invariant-loop-link l = record {
  room : length l.room ≡ length l.fn.room;
  within : l.found.links ≤ length l.room;
  few : l.found.lines + length l.rest ≤ length l.bytes;
  are : (done : List ℕ) × (l.bytes ≡ done ++ l.rest) × AreArcLines l.size.vertices l.found.lines done (take l.found.links l.room);
}

abbrev pub decreases-loop-link : goal.decreases-loop-link
decreases-loop-link l = length l.rest
