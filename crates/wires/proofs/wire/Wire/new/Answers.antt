use Rattle.std.proofs.Common.{[], refl, inl}
use Rattle.wires.proofs.Wiring.{new_quiet, fresh_faultless}
use Rattle.wires.proofs.wire.Wire.new.Goals as goal

pub returns-clause-counted : goal.returns-clause-counted
returns-clause-counted g c = new_quiet g.L.Line.state _ refl refl

pub returns-clause-sound : goal.returns-clause-sound
returns-clause-sound g c fresh known = inl ([], fresh_faultless g.L.Line.state _ _ fresh known refl refl c.empty.ensures refl refl refl refl)

pub returns-clause-honest : goal.returns-clause-honest
returns-clause-honest g c fresh known faithful = (
  faithful,
  (
    (g.L.Line.state c.args.line).ends,
    [],
    inl ([], fresh_faultless g.L.Line.state _ _ fresh known refl refl c.empty.ensures refl refl refl refl),
  ),
)
