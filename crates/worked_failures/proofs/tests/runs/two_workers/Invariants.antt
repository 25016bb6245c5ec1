use Rattle.std.proofs.Common.{◌≡◌, vec_len}
use Rattle.std.specs.Prelude.{All}
use Rattle.ports.specs.EngineLines.{line_of}
use Rattle.wires.specs.Lines.{HasRoom}
use Rattle.worked_failures.proofs.tests.runs.two_workers.Given as goal

abbrev pub invariant-loop-worker : goal.invariant-loop-worker
invariant-loop-worker g l = record {
  count : vec_len l.lines ≡ l.worker;
  room : All (λ line. HasRoom (line_of line)) l.lines.items;
}
