use Rattle.std.proofs.Common.{arith}
use Rattle.worker_engine.proofs.Shelves.{under_coarser}
use Rattle.worker_engine.proofs.engine.make_live.Goals as goal

pub returns-else-not-coarsens-clause-keeps : goal.returns-else-not-coarsens-clause-keeps
returns-else-not-coarsens-clause-keeps g c = search (arith, under_coarser)
