use Rattle.std.proofs.Common.{ℕ, ◌+◌, ◌<◌, ◌≤◌, take, Contains}
use Rattle.links.specs.declared.links.Link.{Link}
use Rattle.caller_forests.specs.Places.{IsLinkAt}
use Rattle.caller_forests.specs.Candidates.{AreOfArcs, HasCandidate}
use Rattle.caller_forests.proofs.candidates.put_candidates.Given as goal

abbrev pub invariant-loop-place : goal.invariant-loop-place
invariant-loop-place g l = record {
  few : l.count + l.from ≤ l.place;
  of_arcs : AreOfArcs l.arcs (take l.count l.found);
  none_missed : (place : ℕ) (m : Link) → l.from ≤ place → place < l.place → IsLinkAt l.arcs m place → Contains l.sieve m → HasCandidate (take l.count l.found) m place;
}
