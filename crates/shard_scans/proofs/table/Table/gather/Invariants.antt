use Rattle.std.proofs.Common.{◌+◌}
use Rattle.shard_scans.specs.Tables.{ArePlacesBelow}
use Rattle.shard_scans.proofs.table.Table.gather.Given as goal

abbrev pub invariant-loop-before : goal.invariant-loop-before
invariant-loop-before g l = ArePlacesBelow l.bests (l.before + 1) l.pairs.items
