use Rattle.std.proofs.Common.{ℕ, ◌<◌, ◌≤◌}
use Rattle.links.specs.Labels.{IsLabelled}
use Rattle.links.proofs.labellings.are_labels.Given as goal

abbrev pub invariant-loop-v : goal.invariant-loop-v
invariant-loop-v l = (u : ℕ) → 1 ≤ u → u < l.v → IsLabelled l.labels u
