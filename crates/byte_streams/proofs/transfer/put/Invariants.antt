-- The sink took a prefix of the field, and had no setback.
use Rattle.std.proofs.Common.{length, ◌-◌, ◌≤◌, take}
use Rattle.byte_streams.specs.Streams.{Took}
use Rattle.byte_streams.proofs.transfer.put.Given as goal

abbrev pub invariant-loop-taken : goal.invariant-loop-taken
invariant-loop-taken g l = record {
  within : l.taken ≤ length l.field;
  took : Took 0 (take l.taken l.field) (g.W.Sink.state l.initial.sink) (g.W.Sink.state l.sink);
  can : g.W.Sink.can_write l.sink;
}

abbrev pub decreases-loop-taken : goal.decreases-loop-taken
decreases-loop-taken g l = length l.field - l.taken
