-- The kept links are the links up to this one, each at least once. The others are where they were.
use Rattle.std.proofs.Common.{◌≡◌, ℕ, ◌<◌, ◌≤◌, Contains, take, length, get_or}
use Rattle.links.specs.LinkSet.{SameLinks}
use Rattle.links.specs.declared.links.Link.{Link}
use Rattle.links.proofs.repeats.put_once_behind.Given as goal

abbrev pub invariant-loop-i : goal.invariant-loop-i
invariant-loop-i l = record {
  len : length l.links ≡ length l.initial.links;
  ahead : (k : ℕ) (d : Link) → l.i ≤ k → get_or l.links k d ≡ get_or l.initial.links k d;
  to : l.i ≤ length l.initial.links;
  few : l.kept ≤ l.i;
  some : 0 < length l.initial.links → 1 ≤ l.kept;
  same : SameLinks (Contains (take l.i l.initial.links)) (Contains (take l.kept l.links));
}
