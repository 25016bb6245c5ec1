-- How the program ends on several files, whose edges are joined.
use Rattle.std.specs.Prelude.{◌≡◌, ◌≢◌, ◌≤◌, ◌<◌, ℕ, ◌+◌, ◌⊎◌, ⊤, List, [], ◌∷◌, ◌++◌, All, Option, None, Some, Bool, true, false, Result, Ok, Err, codes}
use Rattle.limits.specs.declared.TheConstants.{MAX_BYTES}
use Rattle.byte_streams.specs.Streams.{SourceState, Gave}
use Rattle.gr_text.specs.Graph.{GraphValue}
use Rattle.gr_text.specs.Sourced.{IsReadOf}
use Rattle.plain_run.specs.Files.{IsFileOf}
use Rattle.plain_run.specs.Parts.{Adds, ArePartsOf, IsAdded, PartsValue, WritesForestOf, joined_graph}
use Rattle.plain_run.specs.declared.fault.PartFault.TheVariants as part
use Rattle.plain_run.specs.declared.fault.RunFault.{RunFault}
use Rattle.plain_run.specs.declared.report.Report.{Report}
use Rattle.program_words.specs.Messages.{IsWritten, given_twice_line, part_line, unopened_line}
use Rattle.program_words.specs.Statuses.{status_for_part}
use Rattle.boruvka.specs.Status.{IsReported, IsUntouched, status_of_run, uncounted}
use Rattle.boruvka.specs.Streams.{Standard}
use Rattle.boruvka.specs.declared.joined.JoinFault.{JoinFault}
use Rattle.boruvka.specs.declared.joined.JoinFault.TheVariants.{Unopened, Part}

-- a file as a source: the input with its visible state, or a FILE, of which nothing is known
abbrev pub source_of : SourceState → Option (List ℕ) → SourceState
source_of input None = input
source_of input (Some name) = uncounted

-- how often the input is among the files
abbrev pub inputs : List (Option (List ℕ)) → ℕ
inputs [] = 0
inputs (None ∷ files) = 1 + inputs files
inputs (Some name ∷ files) = inputs files

-- the file was read to its end, as the input changed from `before` to `after`, and describes this graph
pub record GivesGraph (before after : SourceState) (file : Option (List ℕ)) (graph : GraphValue) : Type 0 where
  pub bytes : List ℕ
  pub read : Gave 0 1 bytes (source_of before file) (source_of after file)
  pub means : IsFileOf bytes graph

-- each file gave the graph with its index
abbrev pub GiveGraphs : SourceState → SourceState → List (Option (List ℕ)) → List GraphValue → Type 0
GiveGraphs before after [] [] = ⊤
GiveGraphs before after (file ∷ files) (graph ∷ graphs) = GivesGraph before after file graph × GiveGraphs before after files graphs
GiveGraphs before after _ _ = ⊥

-- the files gave these graphs, each with this many vertices, and the input is at most once among them
pub record AreParts (before after : SourceState) (files : List (Option (List ℕ))) (vertices : ℕ) (graphs : List GraphValue) : Type 0 where
  pub each : GiveGraphs before after files graphs
  pub one_number : All (λ graph. graph.vertices ≡ vertices) graphs
  pub once : inputs files ≤ 1

-- if the input isn't among the files, it stays as it was
abbrev pub LeavesInput : List (Option (List ℕ)) → SourceState → SourceState → Type 0
LeavesInput files before after = inputs files ≡ 0 → after ≡ before

-- ---- a file that can't be joined

-- Why a file stops the run after `others`. It can't be opened, which includes the input for a second time. Or it wasn't
-- read, or there was no memory for its edges, or its number of vertices differs from theirs.
abbrev pub StopsAfter : List (Option (List ℕ)) → ℕ → Option (List ℕ) → JoinFault → SourceState → SourceState → Type 0
StopsAfter others vertices file Unopened before after = file ≡ None → 0 < inputs others
StopsAfter others vertices file (Part (part.Read why)) before after = IsReadOf MAX_BYTES (Err why) (source_of before file) (source_of after file)
StopsAfter others vertices file (Part (part.OtherVertices other wanted)) before after =
    (graph : GraphValue) × GivesGraph before after file graph × (other ≡ graph.vertices) × (wanted ≡ vertices) × (other ≢ wanted) × (others ≢ [])

-- the exit status if a file stops the run
abbrev pub status_for_stop : JoinFault → ℕ
status_for_stop Unopened = 3
status_for_stop (Part why) = status_for_part why

-- the name of a file in messages
abbrev pub name_of : Option (List ℕ) → List ℕ
name_of None = codes "-"
name_of (Some name) = name

-- the line of a file that can't be opened, or of the input, which can't be read a second time
abbrev pub not_opened_line : Option (List ℕ) → List ℕ
not_opened_line None = given_twice_line
not_opened_line (Some name) = unopened_line name

-- the line that says why a file stopped the run
abbrev pub stop_line : Option (List ℕ) → JoinFault → List ℕ
stop_line file Unopened = not_opened_line file
stop_line file (Part why) = part_line (name_of file) why

-- this file stops the run, and those before it don't
pub record StopsAt (files : List (Option (List ℕ))) (file : Option (List ℕ)) (why : JoinFault) (before after : SourceState) : Type 0 where
  pub others : List (Option (List ℕ))
  pub behind : List (Option (List ℕ))
  pub split : files ≡ others ++ file ∷ behind
  pub vertices : ℕ
  pub graphs : List GraphValue
  pub parts : AreParts before after others vertices graphs
  pub unread : LeavesInput (others ++ file ∷ []) before after
  pub stops : StopsAfter others vertices file why before after

-- ---- one more file

-- one more part from a source: it was added to the others, or it stops the run
abbrev pub AddsFrom : SourceState → SourceState → PartsValue → Result PartsValue JoinFault → Type 0
AddsFrom before after old (Ok new) = IsAdded old new before after
AddsFrom before after old (Err Unopened) = ⊥
AddsFrom before after old (Err (Part why)) = Adds old (Err why) before after

-- the same from a file: a FILE is opened, and the input is read, unless it was read before; then it is left alone
abbrev pub AddsFile : Option (List ℕ) → Bool → SourceState → SourceState → PartsValue → Result PartsValue JoinFault → Type 0
AddsFile file was_read before after old (Err Unopened) = (file ≡ None → was_read ≡ true) × (after ≡ before)
AddsFile file was_read before after old other =
    (file ≡ None → was_read ≡ false) × AddsFrom (source_of before file) (source_of after file) old other

-- the parts represent the files' graphs; if the input isn't among the files, it stays as it was
pub record AreAdded (files : List (Option (List ℕ))) (added : PartsValue) (before after : SourceState) : Type 0 where
  pub graphs : List GraphValue
  pub parts : AreParts before after files added.vertices graphs
  pub unread : LeavesInput files before after
  pub stand : ArePartsOf graphs added

-- ---- how the run ends

-- All files were read, and the text of the forest of all their edges was written, or a part of it. If there was no
-- memory, nothing was written.
pub record EndsJoined (files : List (Option (List ℕ))) (wants : Bool) (status : ℕ) (before after : Standard) : Type 0 where
  pub vertices : ℕ
  pub graphs : List GraphValue
  pub parts : AreParts before.source after.source files vertices graphs
  pub unread : LeavesInput files before.source after.source
  pub result : Result Report RunFault
  pub status_is : status ≡ status_of_run result
  pub written : WritesForestOf (joined_graph vertices graphs) result before.sink after.sink
  pub reported : IsReported wants result before.errors after.errors

-- a file stopped the run: only its line was written
pub record EndsAtFile (files : List (Option (List ℕ))) (status : ℕ) (before after : Standard) : Type 0 where
  pub file : Option (List ℕ)
  pub why : JoinFault
  pub stops : StopsAt files file why before.source after.source
  pub status_is : status ≡ status_for_stop why
  pub nothing : IsUntouched before.sink after.sink
  pub told : IsWritten (stop_line file why) before.errors after.errors

-- the status of a run on several files, with or without a report, and what it did to its streams
abbrev pub EndsOnSeveral : List (Option (List ℕ)) → Bool → ℕ → Standard → Standard → Type 0
EndsOnSeveral files wants status before after = EndsJoined files wants status before after ⊎ EndsAtFile files status before after
