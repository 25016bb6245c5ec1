use Rattle.std.proofs.Common.{ℕ, ◌<◌, ◌≤◌}
use Rattle.links.proofs.Coarser.{IsCoarserAt}
use Rattle.links.proofs.labellings.are_coarser.Given as goal

abbrev pub invariant-loop-v : goal.invariant-loop-v
invariant-loop-v l = (u : ℕ) → 1 ≤ u → u < l.v → IsCoarserAt l.labels l.finer u
