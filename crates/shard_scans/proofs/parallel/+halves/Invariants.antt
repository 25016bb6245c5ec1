use Rattle.std.proofs.Common.{◌+◌, ◌*◌}
use Rattle.shard_scans.proofs.parallel.+halves.Given as goal

abbrev pub decreases-best_between : goal.decreases-best_between
decreases-best_between g l = 2 * l.halvings + 1

abbrev pub decreases-front : goal.decreases-front
decreases-front g l = 2 * l.halvings

abbrev pub decreases-back : goal.decreases-back
decreases-back g l = 2 * l.halvings
