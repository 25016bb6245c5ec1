-- What the program does, given what its arguments ask for.
use Rattle.std.specs.Prelude.{Result, OnOk, Bool, true, false, ⊤}
use Rattle.std.proofs.Common.{◌≡◌, ◌≤◌, ℕ, ◌⊎◌, List, [], ◌∷◌, length, slice_get, Option, None, Some, inl, inr, Ok, Err, refl, arith}
use Rattle.byte_streams.specs.Streams.{SourceState, SinkState, IsFlushed, HadNoSetback}
use Rattle.byte_streams.proofs.Streaming.{gave_nothing, took_nothing}
use Rattle.links.specs.declared.links.Link.{Link}
use Rattle.gr_text.specs.Graph.{GraphValue}
use Rattle.gr_text.specs.declared.faults.ReadFault.TheVariants as read
use Rattle.plain_run.specs.Files.{IsFirstFaultOf}
use Rattle.plain_run.specs.Outcomes.{streams, Streams, ForestFact, AnswerFact, Ran, IsUnread}
use Rattle.forest_run.specs.LinesRun.{IsUnhindered}
use Rattle.plain_run.specs.declared.report.Report.{Report}
use Rattle.plain_run.specs.declared.fault.RunFault.{RunFault}
use Rattle.plain_run.specs.declared.fault.RunFault.TheVariants as fault
use Rattle.program_words.specs.Messages.{IsWritten, fault_line}
use Rattle.program_words.specs.Statuses.{status_for}
use Rattle.boruvka.specs.Asked.{Asked, EndsAs, EndsOnFiles, EndsOn}
use Rattle.boruvka.specs.Status.{EndsOverWorkers, LeavesOutput, IsUntouched, report_of, status_of_run}

-- ---- out of memory before anything was read or written

-- the line for this
abbrev no_memory : List ℕ
no_memory = fault_line (fault.Read read.Memory)

unread : (s : SourceState) (a : SinkState) → IsUnread read.Memory (streams s a) (streams s a)
unread s a = record { refused = inr (inl (record { bytes = []; gave = gave_nothing s; stops = tt })); nothing = took_nothing a }

pub wants_memory_over : (workers shards : ℕ) (wants : Bool) (s : SourceState) (a e f : SinkState) → IsWritten no_memory e f
    → EndsOverWorkers workers shards wants 4 (record { source = s; sink = a; errors = e }) (record { source = s; sink = a; errors = f })
wants_memory_over workers shards wants s a e f text = record {
  lines = [];
  few = omega arith;
  new = λ k d below. absurd (omega arith);
  ends = record {
    result = Err (fault.Read read.Memory);
    status_is = refl;
    ran = unread s a;
    reported = text;
    judged = record { malformed = λ bytes has nothing. tt; lawful = λ bytes has means. refl };
    served = λ served. unread s a;
    ends_well = λ served has. refl;
  };
}

wants_memory_as : (plain : Bool) (asked : Asked) (s : SourceState) (a e f : SinkState) → IsWritten no_memory e f
    → EndsAs plain asked 4 (record { source = s; sink = a; errors = e }) (record { source = s; sink = a; errors = f })
wants_memory_as true asked s a e f text = record {
  result = Err (fault.Read read.Memory);
  status_is = refl;
  ran = unread s a;
  reported = text;
  judged = record { malformed = λ bytes has nothing. tt; lawful = λ bytes has means. refl };
}
wants_memory_as false asked s a e f text = wants_memory_over asked.workers asked.shards asked.report s a e f text

wants_memory_on : (file : Option (List ℕ)) (asked : Asked) (s : SourceState) (a e f : SinkState) → IsWritten no_memory e f
    → EndsOn file asked 4 (record { source = s; sink = a; errors = e }) (record { source = s; sink = a; errors = f })
wants_memory_on a1 a2 a3 a4 a5 a6 a7 = search (arith, wants_memory_as)

pub wants_memory_of : (files : List (Option (List ℕ))) (asked : Asked) (s : SourceState) (a e f : SinkState) → IsWritten no_memory e f
    → EndsOnFiles files asked 4 (record { source = s; sink = a; errors = e }) (record { source = s; sink = a; errors = f })
wants_memory_of [] asked s a e f text = wants_memory_on None asked s a e f text
wants_memory_of (file ∷ []) asked s a e f text = wants_memory_on file asked s a e f text
wants_memory_of (file ∷ next ∷ files) asked s a e f text = inl (record { status_is = refl; unread = refl; nothing = took_nothing a; told = text })

-- ---- which files there are

-- if there is at most one file, it is the one with this name
pub only_file : {F : Type 0} (items : List (Option F)) (name : F) → length items ≤ 1 → Some (Some name) ≡ slice_get items 0 → items ≡ Some name ∷ []
only_file [] name few is = absurd cc
only_file (item ∷ []) name few is =
    let same : item ≡ Some name = cc in
    rw same refl
only_file (item ∷ next ∷ items) name few is = absurd (omega arith)

-- ---- runs over lines

-- a run whose report is written has the status of its result
pub status_by_report : {X : Type 0} (status : ℕ) (ended : Result Report RunFault) (result : Result (Report × X) RunFault)
    → ended ≡ report_of result → status ≡ status_of_run ended → status ≡ status_of_run result
status_by_report a1 a2 a3 a4 a5 = search arith

-- ---- the status

-- the error is the workers'
abbrev pub IsTheirs : RunFault → Type 0
IsTheirs (fault.Rounds round) = ⊤
IsTheirs (fault.Missed link) = ⊤
IsTheirs other = ⊥

-- each error has one of five statuses, and only the workers' errors have the last one
pub record HasStatus (why : RunFault) (status : ℕ) : Type 0 where
  pub some : 1 ≤ status
  pub few : status ≤ 5
  pub own : ¬ IsTheirs why → status ≤ 4

own_status : (why : RunFault) (status : ℕ) → 1 ≤ status → status ≤ 4 → HasStatus why status
own_status why status some few = record { some = some; few = omega arith; own = λ own. few }

pub status_bound : (why : RunFault) → HasStatus why (status_for why)
status_bound a1 = search (arith, own_status)

-- if a run doesn't end with an error of the workers, its status isn't theirs
pub own_end : {X : Type 0} (found : ForestFact) (says : AnswerFact X) (why : GraphValue → RunFault → Type 0) (result : Result X RunFault) (status : ℕ) (before after : Streams)
    → status ≡ status_of_run result → Ran found says why result before after
    → ((graph : GraphValue) (round : ℕ) → ¬ why graph (fault.Rounds round)) → ((graph : GraphValue) (link : Link) → ¬ why graph (fault.Missed link)) → status ≤ 4
own_end found says why (Ok x) status before after is ran no_round no_link = omega arith
own_end found says why (Err (fault.Read f)) status before after is ran no_round no_link = (let low = (status_bound (fault.Read f)).own (λ theirs. theirs) in omega arith)
own_end found says why (Err (fault.Cut f)) status before after is ran no_round no_link = (let low = (status_bound (fault.Cut f)).own (λ theirs. theirs) in omega arith)
own_end found says why (Err (fault.Rounds round)) status before after is ran no_round no_link = absurd (no_round ran.graph round ran.cause)
own_end found says why (Err (fault.Missed link)) status before after is ran no_round no_link = absurd (no_link ran.graph link ran.cause)
own_end found says why (Err fault.Memory) status before after is ran no_round no_link = omega arith
own_end found says why (Err (fault.Write written)) status before after is ran no_round no_link = omega arith

pub run_bound : {X : Type 0} (result : Result X RunFault) (status : ℕ) → status ≡ status_of_run result → status ≤ 5
run_bound a1 a2 a3 = search (arith, status_bound)

-- a run with status 0 succeeded, and so left its sink flushed
pub flushed_at_end : {X : Type 0} (result : Result X RunFault) (status : ℕ) (unflushed : Option (List ℕ)) → status ≡ status_of_run result
    → OnOk result (IsFlushed unflushed) → status ≡ 0 → IsFlushed unflushed
flushed_at_end a1 a2 a3 a4 a5 a6 = search (arith, status_bound)

-- a run that wrote nothing has neither status 0 nor status 3
pub loud : (status : ℕ) → (status ≡ 0) ⊎ (status ≡ 3) → LeavesOutput status → ⊥
loud a1 a2 a3 = search arith

-- at one of those statuses nothing was written
pub silent_run : {X : Type 0} (found : ForestFact) (says : AnswerFact X) (why : GraphValue → RunFault → Type 0)
    (result : Result X RunFault) (status : ℕ) (s t : SourceState) (a b : SinkState) → status ≡ status_of_run result
    → Ran found says why result (streams s a) (streams t b) → LeavesOutput status → IsUntouched a b
silent_run found says why (Ok x) status s t a b is ran silent = absurd (loud status (inl is) silent)
silent_run found says why (Err (fault.Read f)) status s t a b is ran silent = ran.nothing
silent_run found says why (Err (fault.Cut f)) status s t a b is ran silent = ran.nothing
silent_run found says why (Err (fault.Rounds round)) status s t a b is ran silent = ran.nothing
silent_run found says why (Err (fault.Missed link)) status s t a b is ran silent = ran.nothing
silent_run found says why (Err fault.Memory) status s t a b is ran silent = ran.nothing
silent_run found says why (Err (fault.Write written)) status s t a b is ran silent = absurd (loud status (inr is) silent)

-- a valid file whose edges can be split like this has its forest, or there was no memory, or the sink failed
pub done_status : {X : Type 0} (result : Result X RunFault) (status : ℕ) (a b : SinkState) → status ≡ status_of_run result → IsUnhindered result a b
    → (status ≡ 0) ⊎ ((status ≡ 4) ⊎ ((status ≡ 3) × ¬ HadNoSetback a b))
done_status a1 a2 a3 a4 a5 a6 = search arith

-- an invalid file gives an error of the file, or there was no memory
pub refused_status : {X : Type 0} (bytes : List ℕ) (result : Result X RunFault) (status : ℕ) → status ≡ status_of_run result → IsFirstFaultOf bytes result → (status ≡ 1) ⊎ (status ≡ 4)
refused_status a1 a2 a3 a4 a5 = search arith
