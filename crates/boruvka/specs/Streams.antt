-- The program's three streams, before a call and after it.
use Rattle.std.specs.Prelude.{◌≡◌, ⊤}
use Rattle.std.specs.Borrow.{MutBor}
use Rattle.byte_streams.specs.Streams.{SourceState, SinkState}
use Rattle.byte_streams.specs.declared.traits.Source as Source
use Rattle.byte_streams.specs.declared.traits.Sink as Sink
use Rattle.plain_run.specs.Outcomes.{Streams, streams}
use Rattle.boruvka.specs.declared.progress.Watched.{Watched}
use Rattle.boruvka.specs.declared.standard.StandardStreams.{StandardStreams}

-- the states of the three streams, as far as they are visible
pub record Standard : Type 0 where
  pub source : SourceState
  pub sink : SinkState
  pub errors : SinkState

-- the two that a run reads and writes
abbrev pub of_run : Standard → Streams
of_run all = streams all.source all.sink

-- the visible states of an input, an output and errors
abbrev pub standard : {I O E : Type 0} → Source.Ghosts I → Sink.Ghosts O → Sink.Ghosts E → I → O → E → Standard
standard reads writes tells input output errors = record { source = reads.state input; sink = writes.state output; errors = tells.state errors }

-- each of the three can be used
pub record AreReady {I O E : Type 0} (reads : Source.Ghosts I) (writes : Sink.Ghosts O) (tells : Sink.Ghosts E)
    (io : StandardStreams I O E) : Type 0 where
  pub input : reads.can_read io.input.now
  pub output : writes.can_write io.output.now
  pub errors : tells.can_write io.errors.now

-- an input, an output and errors, as a call left them
abbrev pub Left : Type 0 → Type 0 → Type 0 → Type 0
Left I O E = MutBor I × (MutBor O × (MutBor E × ⊤))

abbrev pub left_input : {I O E : Type 0} → Left I O E → I
left_input after = after.0.now

abbrev pub left_output : {I O E : Type 0} → Left I O E → O
left_output after = after.1.0.now

abbrev pub left_errors : {I O E : Type 0} → Left I O E → E
left_errors after = after.1.1.0.now

-- R holds for the states of the three before and after
abbrev pub OnStreams : {I O E : Type 0} → Source.Ghosts I → Sink.Ghosts O → Sink.Ghosts E → (Standard → Standard → Type 0)
    → StandardStreams I O E → Left I O E → Type 0
OnStreams reads writes tells R before after =
    R
    (standard reads writes tells before.input.now before.output.now before.errors.now)
    (standard reads writes tells (left_input after) (left_output after) (left_errors after))

-- the streams with another source
abbrev pub with_source : SourceState → Standard → Standard
with_source s all = record { source = s; sink = all.sink; errors = all.errors }

-- ---- sources whose progress is printed

-- nothing was printed: the writer is the same, and as it was
abbrev pub IsUntold : {I W : Type 0} → Watched I W → Watched I W → Type 0
IsUntold before after = (after.progress.ghost_name ≡ before.progress.ghost_name) × (after.progress.now.writer ≡ before.progress.now.writer)
