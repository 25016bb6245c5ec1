use Rattle.std.proofs.Common.{sym}
use Rattle.wires.proofs.Wiring.{counted_shut, went_shut}
use Rattle.wires.proofs.wire.WirePort.shut.Goals as goal

pub returns-clause-honest : goal.returns-clause-honest
returns-clause-honest g c = rw (sym c.self.view_is) (λ honest. let (carries, some) = honest in let (ends, exchanges, went) = some in
    (carries, (ends, exchanges, went_shut g.L.Line.state _ _ ends exchanges went)))

pub returns-clause-sound : goal.returns-clause-sound
returns-clause-sound g c = rw (sym c.self.view_is) (λ ends exchanges. went_shut g.L.Line.state _ _ ends exchanges)

pub returns-clause-counted : goal.returns-clause-counted
returns-clause-counted g c = rw (sym c.self.view_is) (λ start. counted_shut g.L.Line.state _ start)
