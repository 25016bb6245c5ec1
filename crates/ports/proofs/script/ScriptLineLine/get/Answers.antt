use Rattle.std.proofs.Common.{min, arith}
use Rattle.ports.proofs.GivenBytes.{script_played}
use Rattle.ports.proofs.script.ScriptLineLine.get.Goals as goal

pub returns-clause-after : goal.returns-clause-after
returns-clause-after g c = search (arith, min, script_played)
