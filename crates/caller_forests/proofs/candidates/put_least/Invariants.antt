use Rattle.std.proofs.Common.{ℕ, ◌+◌, ◌-◌, ◌<◌, ◌≤◌, length, get_or}
use Rattle.links.specs.declared.links.Link.{Link}
use Rattle.caller_forests.proofs.LeastPlaces.{IsBehind, LeastBefore}
use Rattle.caller_forests.proofs.candidates.put_least.Given as goal

abbrev pub invariant-loop-i : goal.invariant-loop-i
invariant-loop-i l = record {
  links : l.i ≤ length l.links;
  candidates : l.j ≤ length l.found;
  behind : IsBehind l.links l.found l.i l.j;
  least : (t : ℕ) (d : Link) → t < length l.links → LeastBefore l.found l.j (get_or l.links t d) (get_or l.initial.places t 0) (get_or l.places t 0);
}

abbrev pub decreases-loop-i : goal.decreases-loop-i
decreases-loop-i l = (length l.links - l.i) + (length l.found - l.j)
