use Rattle.std.proofs.Common.{◌≡◌, rules, arith, length}
use Rattle.std.proofs.lemmas.List.Elements.{All-push}
use Rattle.ports.specs.EngineLines.{line_of}
use Rattle.wires.specs.Lines.{HasRoom}
use Rattle.worked_lines.proofs.Engines.{engine_more}
use Rattle.worked_lines.proofs.in_memory.engines.Goals as goal

pub loop-worker-preserved : goal.loop-worker-preserved
loop-worker-preserved g c =
    let line = c.in_ok-new.field-0 in
    let at : c.loop-worker.worker ≡ length c.loop-worker.lines.items = search (rules, arith) in
    record {
      count = search rules;
      room = rw c.in_ok-push.ensures.items (All-push (λ l. HasRoom (line_of l)) c.loop-worker.lines.items line c.loop-worker.invariant.room
          (record { failures = omega (arith, c.in_ok-new.ensures.fresh.failures); ends = omega (arith, c.in_ok-new.ensures.no_end) }));
      served = rw c.in_ok-push.ensures.items
          (engine_more c.loop-worker.lines.items line c.loop-worker.worker at c.loop-worker.invariant.served c.in_ok-new.ensures.faithful c.in_ok-new.ensures.fresh);
    }
