use Rattle.std.proofs.Common.{◌+◌, ◌-◌, ◌/◌, arith}
use Rattle.std.proofs.lemmas.Result.{IfOk-at_ok}
use Rattle.shard_scans.specs.Scanning.{AreBest}
use Rattle.shard_scans.proofs.parallel.+halves.Goals as goal

pub merge-requires-clause-earlier : goal.merge-requires-clause-earlier
merge-requires-clause-earlier g t c = search arith

pub merge-requires-clause-later : goal.merge-requires-clause-later
merge-requires-clause-later g t c = search arith
