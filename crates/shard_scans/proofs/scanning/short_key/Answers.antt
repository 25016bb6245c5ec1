use Rattle.std.proofs.Common.{arith}
use Rattle.std.proofs.lemmas.Int.{ints, clamps, to_z-of_z}
use Rattle.shard_scans.proofs.scanning.short_key.Goals as goal

pub returns : goal.returns
returns c = grind (arith, ints, clamps, to_z-of_z)
