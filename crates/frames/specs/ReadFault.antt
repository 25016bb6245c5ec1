-- What a failed read of a frame says about the stream.
use Rattle.std.specs.Prelude.{◌≡◌, ℕ, ◌+◌, ◌<◌, ◌≤◌, ◌⊎◌, List, length, IfSome}
use Rattle.byte_streams.specs.Streams.{SourceState, Gave}
use Rattle.frames.specs.Refusals.{HasGoodHead, StreamRefused, length_at}
use Rattle.frames.specs.FrameStream.{IsOfStream}
use Rattle.frames.specs.declared.fault.FrameFault.{FrameFault}
use Rattle.frames.specs.declared.fault.FrameFault.TheVariants.{Ended, Torn, Device, Memory}

abbrev pub failures_of : FrameFault → ℕ
failures_of Device = 1
failures_of _ = 0

abbrev pub ends_of : FrameFault → ℕ
ends_of Ended = 1
ends_of Torn = 1
ends_of _ = 0

-- no more than a frame: at most a head, or a head that isn't rejected and at most its body
abbrev pub IsWithinFrame : List ℕ → Type 0
IsWithinFrame bytes = (length bytes ≤ 5) ⊎ (HasGoodHead bytes × (length bytes ≤ 5 + length_at bytes))

-- bytes came, no more than a frame, and they are rejected with this error
pub record IsReadRefused (fault : FrameFault) (before after : SourceState) : Type 0 where
  pub bytes : List ℕ
  pub gave : Gave (failures_of fault) (ends_of fault) bytes before after
  pub within : IsWithinFrame bytes
  pub refused : StreamRefused fault bytes

-- an error that leaves a body unread
abbrev pub CutsShort : FrameFault → Type 0
CutsShort fault = (fault ≡ Torn) ⊎ ((fault ≡ Device) ⊎ (fault ≡ Memory))

-- fewer than `len` bytes of a body came
pub record IsCutShort (fault : FrameFault) (len : ℕ) (before after : SourceState) : Type 0 where
  pub bytes : List ℕ
  pub gave : Gave (failures_of fault) (ends_of fault) bytes before after
  pub short : length bytes < len
  pub cause : CutsShort fault

-- If all that a source has left is known, the error applies to all of it, unless a read failed or memory ran out.
abbrev pub RefusalIsOfTheStream : Type 0
RefusalIsOfTheStream = (fault : FrameFault) (before after : SourceState) → IsOfStream fault → IsReadRefused fault before after
    → IfSome before.left (StreamRefused fault)
