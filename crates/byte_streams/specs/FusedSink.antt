-- The state of a sink over memory that fails, or takes nothing, after a chosen number of bytes.
use Rattle.std.specs.Prelude.{ℕ, ◌+◌, ◌-◌, min, Bool, ◌&&◌, List, [], ◌++◌, length, take, Some, Result, Ok, Err, ◌==◌, nat_lt, if◌then◌else◌}
use Rattle.byte_streams.specs.Streams.{SinkState}
use Rattle.byte_streams.specs.declared.traits.Failed.{Failed}

-- the bytes taken, how many bytes it takes in all, the most that a write takes, whether it fails when full, and its
-- setbacks
pub record FusedSinkState : Type 0 where
  pub held : List ℕ
  pub passes : ℕ
  pub piece : ℕ
  pub fails_when_full : Bool
  pub setbacks : ℕ

-- a sink that has taken nothing yet
abbrev pub fresh_sink : ℕ → ℕ → Bool → FusedSinkState
fresh_sink passes piece fails = record { held = []; passes = passes; piece = piece; fails_when_full = fails; setbacks = 0 }

-- its state shows both parts
abbrev pub known_sink : FusedSinkState → SinkState
known_sink s = record { held = Some s.held; setbacks = Some s.setbacks }

-- it is full, and fails when it is full
abbrev pub is_blown : FusedSinkState → Bool
is_blown s = (length s.held == s.passes) && s.fails_when_full

-- how many of `len` bytes a write takes
abbrev pub taken_of : FusedSinkState → ℕ → ℕ
taken_of s len = min (min len s.piece) (s.passes - length s.held)

-- what a write of `buf` returns
abbrev pub write_answer : FusedSinkState → List ℕ → Result ℕ Failed
write_answer s buf = if is_blown s then Err (record {}) else Ok (taken_of s (length buf))

-- the sink with one more setback
abbrev pub set_back : FusedSinkState → FusedSinkState
set_back s = record s { setbacks = s.setbacks + 1 }

-- the sink after a write of `buf`: a setback is counted, or the bytes taken are appended
abbrev pub after_write : FusedSinkState → List ℕ → FusedSinkState
after_write s buf = if is_blown s then set_back s
    else if nat_lt 0 (length buf) && (taken_of s (length buf) == 0) then set_back s
    else record s { held = s.held ++ take (taken_of s (length buf)) buf }
