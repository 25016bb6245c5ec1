use Rattle.std.proofs.Common.{ℕ, ◌-◌, ◌<◌, length, get_or}
use Rattle.links.specs.declared.links.Link.{Link}
use Rattle.caller_forests.proofs.FirstPlaces.{IsLeastUpTo}
use Rattle.caller_forests.proofs.places.put_first_places.Given as goal

abbrev pub invariant-loop-from : goal.invariant-loop-from
invariant-loop-from g l = (t : ℕ) (d : Link) → t < length l.sieve → IsLeastUpTo l.from l.arcs (get_or l.sieve t d) (get_or l.places t 0)

abbrev pub decreases-loop-from : goal.decreases-loop-from
decreases-loop-from g l = length l.arcs - l.from
