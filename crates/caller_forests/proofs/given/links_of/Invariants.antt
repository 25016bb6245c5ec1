use Rattle.std.proofs.Common.{◌≤◌, length, take}
use Rattle.links.specs.Link.{AreLinksOf, EndsUpTo}
use Rattle.caller_forests.specs.Links.{arcs_of}
use Rattle.caller_forests.proofs.given.links_of.Given as goal

abbrev pub invariant-loop-arc : goal.invariant-loop-arc
invariant-loop-arc g l =
    AreLinksOf (arcs_of (take l.arc-index l.given)) l.links.items × (length l.links.items ≤ l.arc-index) × EndsUpTo l.n l.links.items
