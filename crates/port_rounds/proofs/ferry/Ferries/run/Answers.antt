use Rattle.std.proofs.Common.{arith}
use Rattle.port_rounds.proofs.Eaches.{each_from}
use Rattle.port_rounds.proofs.ferry.Ferries.run.Goals as goal

pub for_each_mut-requires-clause-accepts : goal.for_each_mut-requires-clause-accepts
for_each_mut-requires-clause-accepts g c κs lives i p within is = search arith

pub returns : goal.returns
returns g c =
    each_from _ _ _ (omega arith) (λ i d within. let h = c.for_each_mut.ensures i d within in rw (← h.1.argument_is, ← h.1.left) h.1.call)
