use Rattle.std.proofs.Common.{arith}
use Rattle.round_core.proofs.Counts.{counted_one}
use Rattle.round_core.proofs.tally.count.Goals as goal

pub returns : goal.returns
returns c = search (arith, counted_one)
