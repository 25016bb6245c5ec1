use Rattle.std.proofs.Common.{◌-◌, length}
use Rattle.round_core.proofs.Naming.{AreFoundFrom}
use Rattle.round_core.proofs.roots.find_least.Given as goal

abbrev pub invariant-loop-done : goal.invariant-loop-done
invariant-loop-done l = AreFoundFrom l.roots l.parents l.least (length l.roots - l.done)
