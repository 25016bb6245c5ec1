use Rattle.std.specs.Prelude.{◌≡◌, ℕ, List, ◌++◌, take, drop, Some}
use Rattle.frames.specs.FrameStream.{BeginsNone}
use Rattle.worker_replies.specs.Serving.{ShelfList, shelf_of}
use Rattle.worker_replies.specs.Session.{InSession}
use Rattle.wires.specs.declared.line.Line as Line
use Rattle.wires.specs.Lines.{LineState}

-- a session in memory: its engine's shards, the bytes that came, how many of them were read as frames, and the bytes it
-- wrote
pub record SessionState : Type 0 where
  pub shelf : ShelfList
  pub input : List ℕ
  pub heard : ℕ
  pub written : List ℕ

-- the bytes that came and aren't part of a frame that was read
abbrev pub rest_of : SessionState → List ℕ
rest_of s = drop s.heard s.input

-- a session of this worker
abbrev pub IsSessionOf : ℕ → SessionState → Type 0
IsSessionOf worker s = InSession worker (shelf_of s.shelf) s.input s.written s.heard

-- whichever worker's session it was, it still is
abbrev pub GoesOn : SessionState → SessionState → Type 0
GoesOn before after = (worker : ℕ) → IsSessionOf worker before → IsSessionOf worker after

-- The shards that the engine stores, the bytes that were put, and how many of them were read as frames. Then the bytes
-- that the session wrote, how many of them were got, and the counts.
pub record EngineLineState : Type 0 where
  pub shelf : ShelfList
  pub input : List ℕ
  pub heard : ℕ
  pub written : List ℕ
  pub taken : ℕ
  pub failures : ℕ
  pub ends : ℕ

-- what is known of the line: all bytes that were put, and those that were got
abbrev pub line_of : EngineLineState → LineState
line_of s = record { sent = Some s.input; got = Some (take s.taken s.written); failures = s.failures; ends = s.ends }

-- until its first failure, it is in the worker's session, and all frames that came were taken
pub record IsEngineLine (worker : ℕ) (s : EngineLineState) : Type 0 where
  pub session : s.failures ≡ 0 → InSession worker (shelf_of s.shelf) s.input s.written s.heard
  pub all : s.failures ≡ 0 → BeginsNone (drop s.heard s.input)

-- the same as a line
abbrev pub engine_line : Line.Ghosts EngineLineState
engine_line = record { state = line_of; faithful = λ line worker. IsEngineLine worker line }

-- what was written stays, and more may follow it
abbrev pub Extends : List ℕ → List ℕ → Type 0
Extends old new = (more : List ℕ) × (new ≡ old ++ more)
