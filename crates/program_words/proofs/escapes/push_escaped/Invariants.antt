use Rattle.std.proofs.Common.{◌≡◌, ◌+◌, ◌*◌, ◌≤◌, ◌++◌, length, take}
use Rattle.std.specs.List.{flat_map}
use Rattle.program_words.specs.Messages.{hex_of}
use Rattle.program_words.proofs.escapes.push_escaped.Given as goal

abbrev pub invariant-loop-byte : goal.invariant-loop-byte
invariant-loop-byte l = record {
  few : length l.byte-items ≤ 4;
  long : length l.line.bytes ≡ length l.initial.line.bytes + 4 * l.byte-index;
  text : l.line.bytes ≡ l.initial.line.bytes ++ flat_map hex_of (take l.byte-index l.byte-items);
}
