-- The bytes that came to a session and are left.
use Rattle.std.proofs.Common.{◌≡◌, ℕ, List, ◌++◌, ap, subst, ◌∙◌, append_assoc}
use Rattle.ports.specs.EngineLines.{Extends}
use Rattle.std.specs.Prelude.{Result, Ok, Err, OnOk}
use Rattle.frames.specs.Refusals.{StreamRefused}
use Rattle.frames.specs.declared.fault.FrameFault.{FrameFault}
use Rattle.frames.specs.FrameStream.{BeginsNone, IsOfStream}
use Rattle.frames.proofs.FrameStreams.{refused_begins_none}

pub refused_left : {X : Type 0} {E : Type 0} (result : Result X E) (fault : FrameFault) (bytes left : List ℕ) → bytes ≡ left
    → (IsOfStream fault → StreamRefused fault bytes) → OnOk result (IsOfStream fault)
    → OnOk result (BeginsNone left)
refused_left (Ok x) fault bytes left same refused of_stream = subst BeginsNone same (refused_begins_none fault bytes of_stream (refused of_stream))
refused_left (Err e) fault bytes left same refused of_stream = tt

pub grew_then : (a b c : List ℕ) → Extends a b → Extends b c → Extends a c
grew_then a b c first second = (first.0 ++ second.0, second.1 ∙ ap (λ (t : List ℕ). t ++ second.0) first.1 ∙ append_assoc a first.0 second.0)
