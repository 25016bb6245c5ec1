-- The list took the bytes that came, and no read failed or found the end.
use Rattle.std.proofs.Common.{◌≡◌, ◌-◌, ◌≤◌, length}
use Rattle.frames.specs.Pieces.{ListCame}
use Rattle.frames.proofs.list_reader.read_list.Given as goal

abbrev pub invariant-loop-left : goal.invariant-loop-left
invariant-loop-left g l = record {
  within : l.left ≤ l.len;
  room : length l.buffer ≡ 65536;
  came : ListCame (g.L.Hears.heard l.initial.list) (l.len - l.left) l.list (g.S.Source.state l.initial.source) (g.S.Source.state l.source);
  awaits : g.L.Hears.awaits l.list l.left;
  wants : g.L.Hears.wants l.list → g.L.Hears.wants l.initial.list;
  lasts : (fact : g.S.Source.Fact) → g.S.Source.lasts l.initial.source fact → g.S.Source.lasts l.source fact;
  can : g.S.Source.can_read l.source;
}

abbrev pub decreases-loop-left : goal.decreases-loop-left
decreases-loop-left g l = l.left
