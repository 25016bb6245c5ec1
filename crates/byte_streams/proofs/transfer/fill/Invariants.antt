-- What the source gave is at the beginning of the buffer, and the source had no failure and found no end.
use Rattle.std.proofs.Common.{length, ◌-◌, ◌≤◌, take}
use Rattle.byte_streams.specs.Streams.{Gave}
use Rattle.byte_streams.proofs.transfer.fill.Given as goal

abbrev pub invariant-loop-filled : goal.invariant-loop-filled
invariant-loop-filled g l = record {
  within : l.filled ≤ length l.buf;
  gave : Gave 0 0 (take l.filled l.buf) (g.S.Source.state l.initial.source) (g.S.Source.state l.source);
  lasts : (fact : g.S.Source.Fact) → g.S.Source.lasts l.initial.source fact → g.S.Source.lasts l.source fact;
  can : g.S.Source.can_read l.source;
}

abbrev pub decreases-loop-filled : goal.decreases-loop-filled
decreases-loop-filled g l = length l.initial.buf - l.filled
