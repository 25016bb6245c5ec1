use Rattle.std.proofs.Common.{◌≡◌, ℕ, ◌<◌, ◌≤◌, get_or}
use Rattle.link_key.proofs.sequential.rounds.rename.Given as goal

abbrev pub invariant-loop-label : goal.invariant-loop-label
invariant-loop-label l = record {
  done : (k : ℕ) → k < l.label-index → get_or l.labels k 0 ≡ get_or l.numbers (get_or l.initial.labels k 0) 0;
  ahead : (k : ℕ) → l.label-index ≤ k → get_or l.labels k 0 ≡ get_or l.initial.labels k 0;
}
