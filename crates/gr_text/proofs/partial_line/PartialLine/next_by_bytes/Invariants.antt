-- the bytes so far are stored, and have no line feed
use Rattle.std.proofs.Common.{ℕ, List, ◌++◌, take}
use Rattle.gr_text.specs.Lines.{IsLine}
use Rattle.gr_text.specs.PartialLine.{IsKeptAs}
use Rattle.gr_text.proofs.partial_line.PartialLine.next_by_bytes.Given as goal

abbrev pub invariant-loop-place : goal.invariant-loop-place
invariant-loop-place l = record {
  line : IsLine (take l.place l.bytes);
  kept : (part : List ℕ) → IsKeptAs l.fn.self part → IsKeptAs l.partial (part ++ take l.place l.bytes);
}
