-- How much of a text was written.
use Rattle.std.specs.Prelude.{◌≡◌, ℕ, ◌-◌, ◌^◌, ◌≤◌, min, List, length, take, Option, Result, IsOk, IfOk, IfErr, OnOk}
use Rattle.byte_streams.specs.Streams.{SinkState, Took, HadNoSetback, IsFlushed}
use Rattle.gr_text.specs.declared.writer.WriteFault.{WriteFault}

-- the count that is reported for n bytes: their number, or 2^64 - 1 if it is larger
abbrev pub written_count : ℕ → ℕ
written_count n = min n (2 ^ 64 - 1)

-- a prefix of the text was written, and then the sink failed; `written` counts the bytes of the prefix
pub record PrefixWentOut (written : ℕ) (text : List ℕ) (before after : SinkState) : Type 0 where
  pub count : ℕ
  pub within : count ≤ length text
  pub counted : written ≡ written_count count
  pub took : Took 1 (take count text) before after

-- A writer of this text with this result did this to a sink. `unflushed` are the bytes in it that wait for a flush, and
-- it can be written to again if `ready`.
pub record WritesText (text : List ℕ) (result : Result ℕ WriteFault) (before after : SinkState) (unflushed : Option (List ℕ)) (ready : Type 0) : Type 0 where
  -- if the call succeeds, the sink has taken exactly the whole text, and none of its bytes waits for a flush
  pub whole : OnOk result (Took 0 text before after)
  pub count : IfOk result (λ written. written ≡ written_count (length text))
  pub flushed : OnOk result (IsFlushed unflushed)
  -- after an error it has taken a prefix of the text, of as many bytes as the error counts, and has failed
  pub part : IfErr result (λ fault. PrefixWentOut fault.written text before after)
  -- a sink that doesn't fail takes the text
  pub ends_ok : HadNoSetback before after → IsOk result
  pub again : OnOk result ready
