use Rattle.round_core.proofs.Naming.{AreNamed}
use Rattle.round_core.proofs.roots.name_roots.Given as goal

abbrev pub invariant-loop-root : goal.invariant-loop-root
invariant-loop-root l = AreNamed l.roots l.least l.initial.parents l.parents l.root-index
