use Rattle.std.proofs.Common.{rules, arith}
use Rattle.std.proofs.lemmas.List.Elements.{All-push}
use Rattle.ports.specs.EngineLines.{line_of}
use Rattle.wires.specs.Lines.{HasRoom}
use Rattle.worked_failures.proofs.tests.runs.two_workers.Goals as goal

pub loop-worker-preserved : goal.loop-worker-preserved
loop-worker-preserved g c = record {
  count = search rules;
  room = rw c.in_ok-push.ensures.items (All-push (λ l. HasRoom (line_of l)) c.loop-worker.lines.items c.in_ok-new.field-0 c.loop-worker.invariant.room
      (record { failures = omega (arith, c.in_ok-new.ensures.fresh.failures); ends = omega (arith, c.in_ok-new.ensures.no_end) }));
}
