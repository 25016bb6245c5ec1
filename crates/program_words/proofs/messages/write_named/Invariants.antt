use Rattle.std.proofs.Common.{◌+◌, ◌≤◌, ◌++◌, length}
use Rattle.std.specs.List.{flat_map}
use Rattle.program_words.specs.Messages.{IsPartWritten, escaped_char}
use Rattle.program_words.specs.declared.escapes.TheConstants.{END_ROOM, NAMED_LINE_ROOM}
use Rattle.program_words.proofs.messages.write_named.Given as goal

abbrev pub invariant-loop-c : goal.invariant-loop-c
invariant-loop-c g l = record {
  went : IsPartWritten (l.front ++ flat_map escaped_char l.yielded) l.line.bytes (g.S.Sink.state l.initial.sink) (g.S.Sink.state l.sink);
  room : length l.line.bytes + END_ROOM ≤ NAMED_LINE_ROOM;
  can : g.S.Sink.can_write l.sink;
}
