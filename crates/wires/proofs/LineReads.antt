-- What reads of a line say, as facts about the line.
use Rattle.std.proofs.Common.{◌≡◌, [], arith}
use Rattle.std.specs.Prelude.{Result, IfOk, IfErr}
use Rattle.std.specs.Io.KnownBytes.{Appends}
use Rattle.byte_streams.specs.Streams.{Gave}
use Rattle.frames.specs.FrameValue.{value_of}
use Rattle.frames.specs.declared.frame.Frame.{Frame}
use Rattle.frames.specs.FrameText.{text_of}
use Rattle.frames.specs.ReadFault.{IsReadRefused}
use Rattle.frames.specs.declared.fault.FrameFault.{FrameFault}
use Rattle.wires.specs.Lines.{LineState}
use Rattle.wires.specs.LineSources.{source_of}
use Rattle.wires.specs.Causes.{FailsToRead, Receives}

pub came_of : {A : Type 0} (result : Result (Frame A) FrameFault) (a b : LineState) → (b.failures ≡ a.failures → Appends a.sent b.sent [])
    → IfOk result (λ f. Gave 0 0 (text_of (value_of f)) (source_of a) (source_of b)) → IfOk result (λ f. Receives (text_of (value_of f)) a b)
came_of a1 a2 a3 a4 a5 = search (arith)

pub broke_of : {A : Type 0} (result : Result (Frame A) FrameFault) (a b : LineState) → (b.failures ≡ a.failures → Appends a.sent b.sent [])
    → IfErr result (λ fault. IsReadRefused fault (source_of a) (source_of b)) → IfErr result (λ fault. FailsToRead fault a b)
broke_of a1 a2 a3 a4 a5 = search (arith)
