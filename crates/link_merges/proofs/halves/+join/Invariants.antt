use Rattle.std.proofs.Common.{length}
use Rattle.link_merges.proofs.halves.+join.Given as goal

abbrev pub decreases-join : goal.decreases-join
decreases-join l = length l.rows.now
