use Rattle.std.proofs.Common.{◌≡◌, vec_len}
use Rattle.std.specs.Prelude.{All}
use Rattle.ports.specs.EngineLines.{line_of}
use Rattle.wires.specs.Lines.{HasRoom}
use Rattle.ports.specs.Testing.{with_stops}
use Rattle.worked_lines.proofs.tests.drawn.drawn_lines.Given as goal

abbrev pub invariant-loop-worker : goal.invariant-loop-worker
invariant-loop-worker l = record {
  count : vec_len l.lines ≡ l.worker;
  room : All (λ line. HasRoom (with_stops (line_of line.line) line.stopped)) l.lines.items;
}
