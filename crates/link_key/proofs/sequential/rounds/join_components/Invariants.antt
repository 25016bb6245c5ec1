use Rattle.std.proofs.Common.{◌≡◌, ◌+◌, ◌≤◌, length}
use Rattle.link_key.specs.OpenLinks.{AreBetween, AreAllNumbers, StayOpen, LeadsOn}
use Rattle.link_key.proofs.sequential.rounds.join_components.Given as goal

abbrev pub invariant-loop-alloc : goal.invariant-loop-alloc
invariant-loop-alloc g l = record {
  few : l.left ≤ l.count;
  len : length l.numbers.items ≡ l.count + 1;
  numbers : AreAllNumbers l.left l.numbers.items;
  ends : AreBetween (l.left + 1) (length l.marks) l.candidates.items;
  marks : length l.marks ≡ length l.fn.marks;
  labelled : StayOpen l.fn.candidates.items l.numbers.items l.candidates.items;
  stage : LeadsOn l.count l.fn.candidates.items l.fn.marks l.numbers.items l.candidates.items l.marks;
}

abbrev pub decreases-loop-alloc : goal.decreases-loop-alloc
decreases-loop-alloc g l = length l.candidates.items
