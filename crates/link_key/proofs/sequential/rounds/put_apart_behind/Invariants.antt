use Rattle.std.proofs.Common.{◌≡◌, ℕ, ◌+◌, ◌-◌, ◌≤◌, ◌++◌, take, drop, length, get_or}
use Rattle.std.specs.List.{filter}
use Rattle.links.specs.declared.links.Link.{Link}
use Rattle.link_key.specs.Rounds.{is_apart}
use Rattle.link_key.proofs.sequential.rounds.put_apart_behind.Given as goal

abbrev pub invariant-loop-i : goal.invariant-loop-i
invariant-loop-i l = record {
  len : length l.links ≡ length l.initial.links;
  ahead : (k : ℕ) (d : Link) → l.i ≤ k → get_or l.links k d ≡ get_or l.initial.links k d;
  from : l.from ≤ l.i;
  to : l.i ≤ length l.initial.links;
  more : l.first ≤ l.kept;
  few : l.kept + l.from ≤ l.first + l.i;
  kept : take l.kept l.links ≡ take l.first l.initial.links ++ filter (is_apart l.labels) (take (l.i - l.from) (drop l.from l.initial.links));
}
