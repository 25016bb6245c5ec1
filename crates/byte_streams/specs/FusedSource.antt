-- The state of a source over memory that fails after a chosen number of bytes.
use Rattle.std.specs.Prelude.{ℕ, ◌+◌, ◌-◌, min, List, [], ◌++◌, length, take, drop, Some, Result, Ok, Err, ◌==◌, if◌then◌else◌}
use Rattle.byte_streams.specs.Streams.{SourceState}
use Rattle.byte_streams.specs.declared.traits.Failed.{Failed}

-- the bytes given, the bytes left, how many may still be given before it fails, the most that a read gives, and the
-- counts
pub record FusedSourceState : Type 0 where
  pub given : List ℕ
  pub rest : List ℕ
  pub budget : ℕ
  pub piece : ℕ
  pub failures : ℕ
  pub ends : ℕ

-- a source that has given nothing yet
abbrev pub fresh_source : List ℕ → ℕ → ℕ → FusedSourceState
fresh_source bytes passes piece = record { given = []; rest = bytes; budget = passes; piece = piece; failures = 0; ends = 0 }

-- its state shows all four parts
abbrev pub known_source : FusedSourceState → SourceState
known_source s = record { left = Some s.rest; given = Some s.given; failures = Some s.failures; ends = Some s.ends }

-- how many bytes a read into a buffer of `room` bytes gives
abbrev pub given_to : FusedSourceState → ℕ → ℕ
given_to s room = min (min room s.piece) (min s.budget (length s.rest))

-- what such a read returns: it fails if no more bytes may be given
abbrev pub read_answer : FusedSourceState → ℕ → Result ℕ Failed
read_answer s room = if s.budget == 0 then Err (record {}) else Ok (given_to s room)

-- the source after such a read: a failure or an end is counted, and bytes given are no longer left
abbrev pub after_read : FusedSourceState → ℕ → FusedSourceState
after_read s room = if s.budget == 0 then record s { failures = s.failures + 1 }
    else if given_to s room == 0 then record s { ends = s.ends + 1 }
    else record s { given = s.given ++ take (given_to s room) s.rest; rest = drop (given_to s room) s.rest; budget = s.budget - given_to s room }
