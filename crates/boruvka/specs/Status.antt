-- How the program ends.
use Rattle.std.specs.Prelude.{◌≡◌, ◌≤◌, ℕ, ◌⊎◌, List, [], length, All, None, Bool, true, false, Result, Ok, Err}
use Rattle.std.specs.Global.{Vec}
use Rattle.byte_streams.specs.Streams.{SourceState, SinkState, only_left, Took, HadNoSetback, IsFlushed}
use Rattle.byte_streams.specs.declared.traits.Sink as Sink
use Rattle.wires.specs.declared.line.Line as Line
use Rattle.plain_run.specs.Files.{HasFile, MeansGraph, MeansNothing, IsFirstFaultOf, IsNoRefusal}
use Rattle.plain_run.specs.PlainRun.{RanPlain}
use Rattle.forest_run.specs.LinesRun.{RanLines, RanServed, EndsWell, HasGraphToCut}
use Rattle.forest_run.specs.WiredLines.{AreServed}
use Rattle.forest_run.specs.declared.cutting.Cutting.TheVariants.{Even}
use Rattle.plain_run.specs.declared.report.Report.{Report}
use Rattle.plain_run.specs.declared.fault.RunFault.{RunFault}
use Rattle.tcp_lines.specs.Lines.{TcpLineState, tcp_line, unused}
use Rattle.program_words.specs.Messages.{IsWritten, report_line, fault_line}
use Rattle.program_words.specs.Statuses.{status_for}
use Rattle.boruvka.specs.Streams.{Standard, of_run}

-- ---- what was written

-- nothing was written, and the sink didn't fail
abbrev pub IsUntouched : SinkState → SinkState → Type 0
IsUntouched before after = Took 0 [] before after

-- a source of which nothing is known
abbrev pub uncounted : SourceState
uncounted = only_left None

-- ---- the status

-- the exit status of a run: 0 if it succeeded, and otherwise that of its error
abbrev pub status_of_run : {X : Type 0} → Result X RunFault → ℕ
status_of_run (Ok report) = 0
status_of_run (Err why) = status_for why

-- A status at which nothing was written. The file was invalid or couldn't be split, the arguments were wrong, there was
-- no memory, or the workers' answers made no forest.
abbrev pub LeavesOutput : ℕ → Type 0
LeavesOutput status = (status ≡ 1) ⊎ (status ≡ 2) ⊎ (status ≡ 4) ⊎ (status ≡ 5)

-- ---- what each run keeps

-- What every run keeps. It ends with one of six statuses, and without workers never with the one for wrong answers. If
-- the status says that nothing was written, the output is as it was. At status 0 none of its bytes waits for a flush,
-- and the errors get at most the report.
pub record KeepsStreams {O E : Type 0} (writes : Sink.Ghosts O) (plain wants : Bool) (status : ℕ)
    (output : O) (errors : E) (left_output : O) (left_errors : E) : Type 0 where
  pub few : status ≤ 5
  pub plain_status : plain ≡ true → status ≤ 4
  pub silent : LeavesOutput status → IsUntouched (writes.state output) (writes.state left_output)
  pub flushed : status ≡ 0 → IsFlushed (writes.unflushed left_output)
  pub quiet : wants ≡ false → status ≡ 0 → left_errors ≡ errors

-- ---- the report

-- what the errors get from a run with this result: the line of its error, or the line of its report if that is wanted
abbrev pub IsReported : Bool → Result Report RunFault → SinkState → SinkState → Type 0
IsReported true (Ok report) = IsWritten (report_line report)
IsReported false (Ok report) = IsUntouched
IsReported wants (Err why) = IsWritten (fault_line why)

-- what a run over lines returned, without the lines
abbrev pub report_of : {X : Type 0} → Result (Report × X) RunFault → Result Report RunFault
report_of (Ok went) = Ok went.0
report_of (Err why) = Err why

-- ---- how a run ends

-- a visible file that is invalid gives its first error, or memory runs out; a valid one gives no error of the file
pub record JudgesFile {X : Type 0} (result : Result X RunFault) (before after : SourceState) : Type 0 where
  pub malformed : (bytes : List ℕ) → HasFile bytes before after → MeansNothing bytes → IsFirstFaultOf bytes result
  pub lawful : (bytes : List ℕ) → HasFile bytes before after → MeansGraph bytes → IsNoRefusal result

-- the status of a run without workers, with or without a report, and what it did to its streams
pub record EndsWith (wants : Bool) (status : ℕ) (before after : Standard) : Type 0 where
  pub result : Result Report RunFault
  pub status_is : status ≡ status_of_run result
  pub ran : RanPlain result (of_run before) (of_run after)
  pub reported : IsReported wants result before.errors after.errors
  pub judged : JudgesFile result before.source after.source

-- the same for a run over these lines, with the edges split into this many shards, whatever the workers answer
pub record EndsOver {L : Type 0} (over : Line.Ghosts L) (lines : List L) (shards : ℕ) (wants : Bool) (status : ℕ)
    (before after : Standard) : Type 0 where
  pub result : Result (Report × Vec L) RunFault
  pub status_is : status ≡ status_of_run result
  pub ran : RanLines over (Even shards) lines result (of_run before) (of_run after)
  pub reported : IsReported wants (report_of result) before.errors after.errors
  pub judged : JudgesFile result before.source after.source
  -- if each line is new and carries its worker's session
  pub served : AreServed over lines → RanServed (Even shards) result (of_run before) (of_run after)
  pub ends_well : AreServed over lines → EndsWell (Even shards) result (of_run before) (of_run after)

-- A run over new lines to at most this many workers. Nothing is known about what comes over the lines. If there is no
-- line, all of them are served, and the run found the minimum spanning forest.
pub record EndsOverWorkers (workers shards : ℕ) (wants : Bool) (status : ℕ) (before after : Standard) : Type 0 where
  pub lines : List TcpLineState
  pub few : length lines ≤ workers
  pub new : All (λ line. line ≡ unused) lines
  pub ends : EndsOver tcp_line lines shards wants status before after

-- ---- what follows for the status, of a source that is visible

-- if the source has an invalid file and no read failed, the status is that of the file, or of out of memory
abbrev pub RefusesNoGraph : ℕ → Standard → Standard → Type 0
RefusesNoGraph status before after =
    (bytes : List ℕ) → HasFile bytes before.source after.source → MeansNothing bytes → (status ≡ 1) ⊎ (status ≡ 4)

-- if the source has a file whose graph can be split like this, the run succeeds, unless memory runs out or the sink
-- fails
abbrev pub IsDoneOrHindered : ℕ → ℕ → Standard → Standard → Type 0
IsDoneOrHindered shards status before after = HasGraphToCut (Even shards) before.source after.source
    → (status ≡ 0) ⊎ ((status ≡ 4) ⊎ ((status ≡ 3) × ¬ HadNoSetback before.sink after.sink))
