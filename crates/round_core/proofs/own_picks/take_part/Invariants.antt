use Rattle.std.proofs.Common.{◌≡◌, length}
use Rattle.round_core.specs.OwnPicks.{IsOfferedIn, AreTakenFrom}
use Rattle.round_core.proofs.own_picks.take_part.Given as goal

abbrev pub invariant-loop-answer : goal.invariant-loop-answer
invariant-loop-answer g l = record {
  room : length l.part ≡ length l.initial.part;
  taken : AreTakenFrom (IsOfferedIn l.cut l.answers) l.start l.initial.part l.part;
}
