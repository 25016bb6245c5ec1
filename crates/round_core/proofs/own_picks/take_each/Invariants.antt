use Rattle.std.proofs.Common.{◌≡◌, length}
use Rattle.round_core.specs.OwnPicks.{IsOfferedBy, AreTakenFrom}
use Rattle.round_core.proofs.own_picks.take_each.Given as goal

abbrev pub invariant-loop-i : goal.invariant-loop-i
invariant-loop-i l = record {
  room : length l.part ≡ length l.initial.part;
  taken : AreTakenFrom (IsOfferedBy l.links l.pairs) l.start l.initial.part l.part;
}
