use Rattle.std.proofs.Common.{◌≡◌}
use Rattle.worked_runs.proofs.tests.closing.heard_light.Given as goal

abbrev pub invariant-loop-shard : goal.invariant-loop-shard
invariant-loop-shard g l = l.book.labels ≡ l.fn.book.labels
