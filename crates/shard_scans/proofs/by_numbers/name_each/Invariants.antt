use Rattle.std.proofs.Common.{◌≡◌, ◌++◌, take, drop, map}
use Rattle.shard_scans.specs.Numbers.{offered}
use Rattle.shard_scans.proofs.by_numbers.name_each.Given as goal

abbrev pub invariant-loop-i : goal.invariant-loop-i
invariant-loop-i l = l.pairs ≡ map (offered l.names) (take l.i l.initial.pairs) ++ drop l.i l.initial.pairs
