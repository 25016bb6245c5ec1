-- Lines for tests: one that fails after a given number of calls or bytes, and one that plays stored bytes.
use Rattle.std.specs.Prelude.{◌≡◌, ℕ, ◌+◌, ◌-◌, ◌==◌, min, Bool, false}
use Rattle.std.specs.Prelude.{List, [], ◌++◌, length, take, drop, Some, None, Result, Ok, Err, if◌then◌else◌}
use Rattle.std.specs.Io.{ReadsAtMost}
use Rattle.ports.specs.declared.fused.Fuse.{Fuse}
use Rattle.ports.specs.declared.fused.Fuse.TheVariants.{Calls, Bytes}
use Rattle.wires.specs.declared.fault.LineFault.{LineFault}
use Rattle.wires.specs.Lines.{LineState, Gets}

-- ---- a line that stops

-- the inner line, what may still pass, and how many calls were stopped
pub record FusedLineState (L : Type 0) : Type 0 where
  pub line : L
  pub fuse : Fuse
  pub stopped : ℕ

-- nothing passes any more; only a fuse of calls stops a put
abbrev pub stops_puts : Fuse → Bool
stops_puts (Calls left) = left == 0
stops_puts (Bytes left) = false

abbrev pub stops_gets : Fuse → Bool
stops_gets (Calls left) = left == 0
stops_gets (Bytes left) = left == 0

-- the most bytes that a get into `room` bytes may return
abbrev pub most_got : Fuse → ℕ → ℕ
most_got (Calls left) room = room
most_got (Bytes left) room = min room left

-- what may still pass after a call of this many bytes, which are none for a put
abbrev pub after_call : Fuse → ℕ → Fuse
after_call (Calls left) count = Calls (left - 1)
after_call (Bytes left) count = Bytes (left - count)

-- how many bytes a get returned
abbrev pub given_by : Result ℕ LineFault → ℕ
given_by (Ok n) = n
given_by (Err fault) = 0

-- a get of the inner line into the first `room` bytes of a buffer: its bytes are there, and those after `room` are as
-- before
pub record GotInto (room : ℕ) (result : Result ℕ LineFault) (old new : List ℕ) (before after : LineState) : Type 0 where
  pub bound : ReadsAtMost result (take room new)
  pub went : Gets result (take room new) before after
  pub behind : drop room new ≡ drop room old

-- a get that passes is one of the inner line, of no more bytes than may pass
abbrev pub PassesGet : {L : Type 0} → (L → LineState) → Result ℕ LineFault → (old new : List ℕ) → (before after : FusedLineState L) → Type 0
PassesGet state result old new before after = GotInto (most_got before.fuse (length old)) result old new (state before.line) (state after.line)

-- the inner line, with the stopped calls added to its failures
abbrev pub with_stops : LineState → ℕ → LineState
with_stops line stopped = record line { failures = line.failures + stopped }

-- ---- a line that plays

-- the bytes that were got, those that are left, and how many gets found the end
pub record ScriptLineState : Type 0 where
  pub given : List ℕ
  pub left : List ℕ
  pub ends : ℕ

-- a script of which nothing was got yet
abbrev pub fresh_script : List ℕ → ScriptLineState
fresh_script bytes = record { given = []; left = bytes; ends = 0 }

-- what is known of the line: what was got, and not what was sent
abbrev pub line_of_script : ScriptLineState → LineState
line_of_script script = record { sent = None; got = Some script.given; failures = 0; ends = script.ends }

-- after a get of this many bytes
abbrev pub after_get : ScriptLineState → ℕ → ScriptLineState
after_get script count = if count == 0 then record script { ends = script.ends + 1 }
    else record script { given = script.given ++ take count script.left; left = drop count script.left }
