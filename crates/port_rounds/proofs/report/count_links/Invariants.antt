use Rattle.std.proofs.Common.{◌≡◌, ◌≤◌, ◌*◌, length, take}
use Rattle.limits.specs.declared.TheConstants.{MAX_SHARD_LINKS}
use Rattle.links.specs.Cut.{joined}
use Rattle.port_rounds.proofs.report.count_links.Given as goal

abbrev pub invariant-loop-number : goal.invariant-loop-number
invariant-loop-number g l = record {
  so_far : l.links ≡ length (joined (take l.number l.cut));
  few : l.links ≤ l.number * MAX_SHARD_LINKS;
}
