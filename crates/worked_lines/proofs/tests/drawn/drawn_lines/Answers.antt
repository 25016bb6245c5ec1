use Rattle.std.proofs.Common.{[], ◌∷◌, rules}
use Rattle.std.proofs.lemmas.List.Elements.{All-nil, All-cons, All-append}
use Rattle.ports.specs.EngineLines.{line_of}
use Rattle.wires.specs.Lines.{HasRoom}
use Rattle.ports.specs.Testing.{with_stops}
use Rattle.worked_lines.proofs.tests.drawn.drawn_lines.Goals as goal

pub loop-worker-preserved : goal.loop-worker-preserved
loop-worker-preserved c =
    let line = c.in_ok-drawn_line.field-0 in
    record {
      count = search rules;
      room = rw c.in_ok-push.ensures.items (All-append (λ line. HasRoom (with_stops (line_of line.line) line.stopped)) c.loop-worker.lines.items (line ∷ []) c.loop-worker.invariant.room
          (All-cons (λ line. HasRoom (with_stops (line_of line.line) line.stopped)) line [] c.in_ok-drawn_line.ensures.room (All-nil (λ line. HasRoom (with_stops (line_of line.line) line.stopped)))));
    }
