use Rattle.std.proofs.Common.{◌≡◌, ℕ, ◌-◌, ◌≤◌, ◌++◌, take, drop, length, get_or}
use Rattle.std.specs.List.{filter}
use Rattle.links.specs.declared.links.Link.{Link}
use Rattle.plain_run.specs.Sieve.{stays}
use Rattle.plain_run.proofs.sieve.put_staying_behind.Given as goal

abbrev pub invariant-loop-i : goal.invariant-loop-i
invariant-loop-i l = record {
  len : length l.links ≡ length l.initial.links;
  ahead : (k : ℕ) (d : Link) → l.i ≤ k → get_or l.links k d ≡ get_or l.initial.links k d;
  from : l.from ≤ l.i;
  to : l.i ≤ length l.initial.links;
  few : l.kept ≤ l.i;
  kept : take l.kept l.links ≡ take l.from l.initial.links ++ filter (stays l.labels l.heaviest) (take (l.i - l.from) (drop l.from l.initial.links));
}
