use Rattle.std.proofs.Common.{◌≤◌, length, take}
use Rattle.links.specs.Link.{AreLinksOf, EndsUpTo}
use Rattle.caller_forests.proofs.arcs.Arcs.links.Given as goal

abbrev pub invariant-loop-place : goal.invariant-loop-place
invariant-loop-place g l = AreLinksOf (take l.place l.self) l.links.items × (length l.links.items ≤ l.place) × EndsUpTo l.n l.links.items
