use Rattle.std.proofs.Common.{◌+◌, ◌-◌, ◌≤◌}
use Rattle.worker_replies.specs.Serving.{shelf_of}
use Rattle.worker_engine.proofs.Steps.{SoFar}
use Rattle.worker_engine.proofs.session.serve_upto.Given as goal

abbrev pub invariant-loop-served : goal.invariant-loop-served
invariant-loop-served g l = record {
  so_far : SoFar l.worker (shelf_of l.engine) l.served (g.S.Source.state l.initial.source) (g.S.Source.state l.source) (g.W.Sink.state l.fn.sink) (g.W.Sink.state l.sink);
  few : l.served.answers + l.served.faults ≤ l.served.frames;
  within : l.served.frames ≤ l.frames;
  can_read : g.S.Source.can_read l.source;
  can_write : g.W.Sink.can_write l.sink;
}

abbrev pub decreases-loop-served : goal.decreases-loop-served
decreases-loop-served g l = l.frames - l.served.frames
