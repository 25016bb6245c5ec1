-- The head and the first offers were written.
use Rattle.std.proofs.Common.{◌≡◌, length}
use Rattle.worker_engine.specs.Served.{WroteSome}
use Rattle.worker_engine.proofs.session.write_offers.Given as goal

abbrev pub invariant-loop-rest : goal.invariant-loop-rest
invariant-loop-rest g l = record {
  some : WroteSome l.head l.offers l.rest (g.W.Sink.state l.fn.sink) (g.W.Sink.state l.sink);
  room : length l.buffer ≡ 65536;
  can : g.W.Sink.can_write l.sink;
}

abbrev pub decreases-loop-rest : goal.decreases-loop-rest
decreases-loop-rest g l = length l.rest
