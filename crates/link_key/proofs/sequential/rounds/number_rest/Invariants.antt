use Rattle.std.proofs.Common.{ℕ, ◌<◌, get_or}
use Rattle.link_key.specs.OpenLinks.{AreNumbers, AreFilled}
use Rattle.link_key.proofs.sequential.rounds.number_rest.Given as goal

abbrev pub invariant-loop-c : goal.invariant-loop-c
invariant-loop-c l = record {
  numbers : AreNumbers l.count l.numbers;
  filled : AreFilled l.initial.numbers l.numbers;
  done : (k : ℕ) → 0 < k → k < l.c → 0 < get_or l.numbers k 0;
}
