use Rattle.std.proofs.Common.{◌≡◌, take}
use Rattle.links.specs.Least.{sum_of_weights}
use Rattle.links.proofs.forests.Forest.total.Given as goal

-- the links summed so far
abbrev pub invariant-loop-link : goal.invariant-loop-link
invariant-loop-link g l = l.total ≡ sum_of_weights (take l.link-index l.link-items)
