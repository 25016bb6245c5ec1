-- All lines were written except those of the edges that are left.
use Rattle.std.proofs.Common.{length}
use Rattle.gr_text.specs.ForestText.{forest_text}
use Rattle.gr_text.proofs.ForestLines.{GoesOut}
use Rattle.gr_text.proofs.writer.write_lines.Given as goal

abbrev pub invariant-loop-left : goal.invariant-loop-left
invariant-loop-left g l = record {
  ready : g.P.PutLines.ready l.lines;
  can : g.W.Sink.can_write l.sink;
  out : GoesOut l.written (forest_text l.fn.n l.fn.forest) l.left (g.W.Sink.state l.fn.sink) (g.W.Sink.state l.sink);
}

abbrev pub decreases-loop-left : goal.decreases-loop-left
decreases-loop-left g l = length l.left
