use Rattle.std.proofs.Common.{◌≡◌, length}
use Rattle.link_merges.specs.Halves.{AreThemselves}
use Rattle.link_merges.proofs.merges.apart.Given as goal

abbrev pub invariant-loop-c : goal.invariant-loop-c
invariant-loop-c g l = record { as_many : length l.now.items ≡ l.c; own : AreThemselves l.now.items }
