use Rattle.std.proofs.Common.{◌≡◌, map, take}
use Rattle.link_merges.specs.Halves.{points_of}
use Rattle.link_merges.proofs.merges.points_of_ends.Given as goal

abbrev pub invariant-loop-link : goal.invariant-loop-link
invariant-loop-link g l = l.rows.items ≡ map points_of (take l.link-index l.links)
