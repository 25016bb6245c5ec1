-- The text and the first links were sent, and the text awaits the rest.
use Rattle.std.proofs.Common.{◌≡◌, ℕ, [], length}
use Rattle.wires.specs.Lines.{HasRoom}
use Rattle.wires.specs.Sending.{AwaitsLinks, PutsSome}
use Rattle.wires.proofs.steps.send_links.Given as goal

abbrev pub invariant-loop-rest : goal.invariant-loop-rest
invariant-loop-rest g l = record {
  went : PutsSome l.spelling l.fn.text.items l.links l.rest (g.L.Line.state l.fn.line) (g.L.Line.state l.line);
  empty : l.text.items ≡ [];
  awaits : AwaitsLinks l.spelling l.rest l.text;
  can : HasRoom (g.L.Line.state l.line);
  faithful : (w : ℕ) → g.L.Line.faithful l.fn.line w → g.L.Line.faithful l.line w;
}

abbrev pub decreases-loop-rest : goal.decreases-loop-rest
decreases-loop-rest g l = length l.rest
