-- One step of an ask over a line.
use Rattle.std.specs.Prelude.{ℕ, List, Result, IfOk, IfErr}
use Rattle.round_theory.specs.declared.fault.PortFault.{PortFault}
use Rattle.wires.specs.declared.line.Line as Line
use Rattle.wires.specs.Lines.{LineState}
use Rattle.wires.specs.Causes.{Transmits, SendingFault}

-- from `before` to `after`, the line went as `goes` says, or failed as `fails` says, and is faithful for the same
-- workers
pub record Steps {L T E : Type 0} (over : Line.Ghosts L) (goes : T → LineState → LineState → Type 0)
    (fails : E → LineState → LineState → Type 0) (result : Result T E) (before after : L) : Type 0 where
  pub went : IfOk result (λ value. goes value (over.state before) (over.state after))
  pub fault : IfErr result (λ fault. fails fault (over.state before) (over.state after))
  pub faithful : (worker : ℕ) → over.faithful before worker → over.faithful after worker

-- this text was sent whole, or a put failed
abbrev pub SendsText : {L T : Type 0} → Line.Ghosts L → List ℕ → Result T PortFault → L → L → Type 0
SendsText over text result before after = Steps over (λ value. Transmits text) SendingFault result before after
