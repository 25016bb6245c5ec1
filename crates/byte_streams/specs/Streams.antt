-- What the contracts show of streams, and what a call does to it. A part that isn't shown is `None`.
use Rattle.std.specs.Prelude.{◌≡◌, ℕ, ◌+◌, ◌<◌, ◌≤◌, ⊤, List, [], length, take, Option, Some, None, IfSome, Result, Ok, Err, IsOk}
use Rattle.std.specs.Io.KnownBytes.{Appends, Consumes}
use Rattle.byte_streams.specs.declared.traits.Failed.{Failed}
use Rattle.byte_streams.specs.declared.transfer.FillFault.{FillFault}
use Rattle.byte_streams.specs.declared.transfer.FillFault.TheVariants.{Failed as ReadFailed, Ended}

-- a count that is shown grew by n, and is still shown
abbrev pub RisesBy : ℕ → Option ℕ → Option ℕ → Type 0
RisesBy n None new = ⊤
RisesBy n (Some count) None = ⊥
RisesBy n (Some count) (Some new) = new ≡ count + n

-- ---- sources

-- a source's state: the bytes left, the bytes given, the number of failed reads, and the number of reads that found the
-- end
pub record SourceState : Type 0 where
  pub left : Option (List ℕ)
  pub given : Option (List ℕ)
  pub failures : Option ℕ
  pub ends : Option ℕ

-- a source that shows at most the bytes left
abbrev pub only_left : Option (List ℕ) → SourceState
only_left left = record { left = left; given = None; failures = None; ends = None }

-- from `before` to `after` a source gave these bytes, `failed` reads failed, and `ended` reads found the end
pub record Gave (failed ended : ℕ) (bytes : List ℕ) (before after : SourceState) : Type 0 where
  pub left : Consumes before.left after.left bytes
  pub given : failed ≡ 0 → Appends before.given after.given bytes
  pub failures : RisesBy failed before.failures after.failures
  pub ends : RisesBy ended before.ends after.ends
  pub at_end : 0 < ended → IfSome before.left (λ all. all ≡ bytes)

-- one read: it gave at least one byte, or found the end, or failed and gave none
abbrev pub ReadGave : Result ℕ Failed → List ℕ → SourceState → SourceState → Type 0
ReadGave (Ok n) buf before after = (0 < n → Gave 0 0 (take n buf) before after) × (n ≡ 0 → Gave 0 1 [] before after)
ReadGave (Err fault) buf before after = Gave 1 0 [] before after

-- reads into a buffer: they filled it, or gave fewer bytes until one read failed or found the end
abbrev pub FillGave : {T : Type 0} → Result T FillFault → List ℕ → SourceState → SourceState → Type 0
FillGave (Ok filled) buf before after = Gave 0 0 buf before after
FillGave (Err (ReadFailed n)) buf before after = (n < length buf) × Gave 1 0 (take n buf) before after
FillGave (Err (Ended n)) buf before after = (n < length buf) × Gave 0 1 (take n buf) before after

-- the source shows its failures, and it had none
abbrev pub HadNoFailure : SourceState → SourceState → Type 0
HadNoFailure before after = (n : ℕ) × (before.failures ≡ Some n) × (after.failures ≡ Some n)

-- a call that needs `count` bytes succeeds if the source has them and doesn't fail
abbrev pub EndsOkWhereLeft : {T E : Type 0} → ℕ → SourceState → SourceState → Result T E → Type 0
EndsOkWhereLeft count before after result =
    (bytes : List ℕ) → before.left ≡ Some bytes → count ≤ length bytes → HadNoFailure before after → IsOk result

-- ---- sinks

-- a sink's state: the bytes taken, and the number of writes and flushes that failed or took nothing
pub record SinkState : Type 0 where
  pub held : Option (List ℕ)
  pub setbacks : Option ℕ

-- a sink that shows at most its bytes
abbrev pub only_held : Option (List ℕ) → SinkState
only_held held = record { held = held; setbacks = None }

-- from `before` to `after` a sink took these bytes and had `hindered` setbacks
pub record Took (hindered : ℕ) (bytes : List ℕ) (before after : SinkState) : Type 0 where
  pub held : Appends before.held after.held bytes
  pub setbacks : RisesBy hindered before.setbacks after.setbacks

-- no byte was taken of a buffer that isn't empty
abbrev pub IsRefusal : ℕ → List ℕ → Type 0
IsRefusal taken buf = (taken ≡ 0) × (0 < length buf)

-- one write: it took bytes of a buffer, or had nothing to take, or had a setback and took none
abbrev pub WriteTook : Result ℕ Failed → List ℕ → SinkState → SinkState → Type 0
WriteTook (Ok n) buf before after = (¬ IsRefusal n buf → Took 0 (take n buf) before after) × (IsRefusal n buf → Took 1 [] before after)
WriteTook (Err fault) buf before after = Took 1 [] before after

-- no byte waits for a flush, if the sink shows which bytes wait
abbrev pub IsFlushed : Option (List ℕ) → Type 0
IsFlushed unflushed = IfSome unflushed (λ bytes. bytes ≡ [])

-- one flush, which takes no byte
abbrev pub FlushTook : {T : Type 0} → Result T Failed → SinkState → SinkState → Type 0
FlushTook (Ok passed) before after = Took 0 [] before after
FlushTook (Err fault) before after = Took 1 [] before after

-- the first `written` bytes of the text were written, and then came a setback
pub record WentOut (written : ℕ) (text : List ℕ) (before after : SinkState) : Type 0 where
  pub within : written ≤ length text
  pub took : Took 1 (take written text) before after

-- the sink shows its setbacks, and it had none
abbrev pub HadNoSetback : SinkState → SinkState → Type 0
HadNoSetback before after = (n : ℕ) × (before.setbacks ≡ Some n) × (after.setbacks ≡ Some n)
