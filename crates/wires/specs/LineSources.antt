-- A line as a source of bytes.
use Rattle.std.specs.Prelude.{◌≡◌, ℕ, ◌≤◌, List, [], Option, Some, None}
use Rattle.std.specs.Io.KnownBytes.{Appends}
use Rattle.byte_streams.specs.Streams.{SourceState}
use Rattle.wires.specs.Lines.{LineState}

-- a source that gives what is got from the line; what will come isn't known
abbrev pub source_of : LineState → SourceState
source_of line = record { left = None; given = line.got; failures = Some line.failures; ends = Some line.ends }

-- What stays true of a line while frames are read from it. Exactly these bytes were sent, unless a call failed after
-- there were this many failures; or the line is faithful for this worker.
pub data LineFact : Type 0 where
  WasSent : (failures : ℕ) (bytes : Option (List ℕ)) → LineFact
  ServesFor : (worker : ℕ) → LineFact

abbrev pub HoldsOf : LineState → (ℕ → Type 0) → LineFact → Type 0
HoldsOf line faithful (WasSent failures bytes) = (failures ≤ line.failures) × (line.failures ≡ failures → Appends bytes line.sent [])
HoldsOf line faithful (ServesFor worker) = faithful worker
