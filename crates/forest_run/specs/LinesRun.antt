-- A run over lines to workers.
use Rattle.std.specs.Prelude.{◌≡◌, ℕ, ◌+◌, ◌*◌, ◌^◌, ◌<◌, ◌≤◌, ⊤, max, List, length, None, Vec, Result, Ok, Err}
use Rattle.byte_streams.specs.Streams.{SourceState, SinkState, HadNoSetback}
use Rattle.links.specs.declared.links.Link.{Link}
use Rattle.links.specs.declared.cuts.CutFault.TheVariants as cut
use Rattle.links.specs.Cut.{IsCutFault}
use Rattle.links.specs.Least.{sum_of_weights, IsLightest}
use Rattle.gr_text.specs.Graph.{GraphValue}
use Rattle.gr_text.specs.declared.faults.ReadFault.TheVariants as read
use Rattle.round_theory.specs.Rounds.{IsMergingRounds}
use Rattle.round_core.specs.declared.solver.SolveFault.{SolveFault}
use Rattle.round_core.specs.declared.solver.SolveFault.TheVariants as solving
use Rattle.wires.specs.declared.line.Line as Line
use Rattle.plain_run.specs.declared.report.Report.{Report}
use Rattle.plain_run.specs.declared.fault.RunFault.{RunFault}
use Rattle.plain_run.specs.declared.fault.RunFault.TheVariants as fault
use Rattle.forest_run.specs.declared.cutting.Cutting.{Cutting}
use Rattle.forest_run.specs.Cuttings.{cut_refusal, IsCutOf}
use Rattle.plain_run.specs.Files.{IsFileOf, HasFile}
use Rattle.plain_run.specs.Outcomes.{Streams, Ran, IsSpanning, IsLeast}
use Rattle.forest_run.specs.WiredLines.{AreFresh, AreServed, FindsOverLines, RefusesOverLines, HaveTranscripts}

-- ---- a run whatever the workers answer

-- what a run over `lines` lines reports about a graph that was split into `shards` shards, and in which it found this
-- forest
pub record IsLinesReport (lines : ℕ) (graph : GraphValue) (shards : ℕ) (forest : List Link) (report : Report) : Type 0 where
  pub vertices : report.vertices ≡ graph.vertices
  pub links : report.links ≡ length graph.links
  pub shards_are : report.shards ≡ shards
  pub in_time : 2 ^ report.rounds ≤ max 1 graph.vertices
  -- each ask brought an answer or closed a port, and each shard of each round was answered or scanned alone
  pub asked : report.asked ≡ report.answered + report.closed
  pub answered : report.answered + report.alone ≡ (report.rounds + 1) * shards
  -- no more ports were closed than there were, and shards were scanned alone only if all were closed
  pub few_closed : report.closed ≤ lines
  pub alone : 0 < report.alone → report.closed ≡ lines
  pub total : report.total ≡ sum_of_weights forest

-- the report has the number of the list's merging rounds, and no spanning forest of the list weighs less than its total
pub record IsHonestReport (graph : GraphValue) (report : Report) : Type 0 where
  pub rounds_are : IsMergingRounds graph.vertices graph.links report.rounds
  pub in_time : 2 ^ report.rounds ≤ max 1 graph.vertices
  pub lightest : IsLightest graph.links report.total

-- a run that found a forest over lines, which it returns in their order
pub record RunsOverLines {L : Type 0} (A : Type 0) (over : Line.Ghosts L) (cutting : Cutting) (before after : List L)
    (graph : GraphValue) (forest : List Link) (report : Report) : Type 0 where
  pub cut : List (List Link)
  pub cut_is : IsCutOf cutting graph.links cut
  pub report_is : IsLinesReport (length before) graph (length cut) forest report
  pub solved : FindsOverLines A over graph.vertices cut before after forest report
  -- if each line was new and carries its worker's session: this forest is the least, and this report has the number of
  -- merging rounds and the least total
  pub least : AreServed over before → IsLeast graph forest × IsHonestReport graph report
  -- if no port was closed and nothing was scanned alone: each line's bytes are the asks and their answers, and these
  -- name all links of the forest
  pub transcripts : report.alone ≡ 0 → report.closed ≡ 0 → AreFresh over.state before → HaveTranscripts over.state cut forest report.asked after

-- a run over new wires, in which the solver rejects the rounds' answers with this error
pub record IsRefusedRun {L : Type 0} (A : Type 0) (over : Line.Ghosts L) (cutting : Cutting) (lines : List L)
    (graph : GraphValue) (why : SolveFault) : Type 0 where
  pub cut : List (List Link)
  pub cut_is : IsCutOf cutting graph.links cut
  pub refused : RefusesOverLines A over graph.vertices cut lines why

-- Why a run over lines has no forest of a graph. Its list can't be split as requested; the answers of a round are past
-- the bound, or their links don't connect the endpoints of a link; or memory ran out.
abbrev pub IsLinesFault : {L : Type 0} → (A : Type 0) → Line.Ghosts L → Cutting → List L → GraphValue → RunFault → Type 0
IsLinesFault A over cutting lines graph (fault.Cut why) = IsCutFault (cut_refusal cutting (length graph.links)) why
IsLinesFault A over cutting lines graph (fault.Rounds round) = IsRefusedRun A over cutting lines graph (solving.Rounds round)
IsLinesFault A over cutting lines graph (fault.Missed link) = IsRefusedRun A over cutting lines graph (solving.Missed link)
IsLinesFault A over cutting lines graph fault.Memory = cut_refusal cutting (length graph.links) ≡ None
IsLinesFault A over cutting lines graph other = ⊥

-- the run's error for this error of the solver
abbrev pub run_fault : SolveFault → RunFault
run_fault (solving.Rounds round) = fault.Rounds round
run_fault (solving.Missed link) = fault.Missed link
run_fault solving.Memory = fault.Memory

-- What a run over these lines did, whatever the workers answered. It returned this: a report and the lines, or an
-- error.
abbrev pub RanLines : {L A : Type 0} → Line.Ghosts L → Cutting → List L → Result (Report × Vec L A) RunFault → Streams → Streams → Type 0
RanLines {A = A} over cutting lines =
    Ran IsSpanning (λ graph forest r. RunsOverLines A over cutting lines r.1.items graph forest r.0) (IsLinesFault A over cutting lines)

-- ---- a run whose lines are all served by the worker's engine

-- What such a run says about a graph and its forest. The list can be split as requested. The report has the number of
-- the list's merging rounds and the weight of the forest, and no spanning forest weighs less.
pub record IsServedReport (cutting : Cutting) (graph : GraphValue) (forest : List Link) (report : Report) : Type 0 where
  pub allowed : cut_refusal cutting (length graph.links) ≡ None
  pub honest : IsHonestReport graph report
  pub total : report.total ≡ sum_of_weights forest

-- why such a run has no forest of a graph: its list can't be split as requested, or memory ran out
abbrev pub IsServedFault : Cutting → GraphValue → RunFault → Type 0
IsServedFault cutting graph (fault.Cut why) = IsCutFault (cut_refusal cutting (length graph.links)) why
IsServedFault cutting graph fault.Memory = cut_refusal cutting (length graph.links) ≡ None
IsServedFault cutting graph other = ⊥

-- What such a run did: it split the list as requested, and found the minimum spanning forest, after exactly its merging
-- rounds.
abbrev pub RanServed : {X : Type 0} → Cutting → Result (Report × X) RunFault → Streams → Streams → Type 0
RanServed cutting = Ran IsLeast (λ graph forest r. IsServedReport cutting graph forest r.0) (IsServedFault cutting)

-- ---- what follows for a source that is known

-- the bytes are a file within the limit, and describe a graph whose links can be split as requested
pub record MeansGraphToCut (cutting : Cutting) (bytes : List ℕ) : Type 0 where
  pub graph : GraphValue
  pub file : IsFileOf bytes graph
  pub allowed : cut_refusal cutting (length graph.links) ≡ None

-- it is known that the source has such a file, and that no read failed
pub record HasGraphToCut (cutting : Cutting) (before after : SourceState) : Type 0 where
  pub bytes : List ℕ
  pub has : HasFile bytes before after
  pub means : MeansGraphToCut cutting bytes

-- the run returned no error but for lack of memory; or else the sink had an error, or it isn't known that it had none
abbrev pub IsUnhindered : {X : Type 0} → Result X RunFault → SinkState → SinkState → Type 0
IsUnhindered (Ok x) before after = ⊤
IsUnhindered (Err (fault.Read why)) before after = why ≡ read.Memory
IsUnhindered (Err (fault.Cut why)) before after = why ≡ cut.Memory
IsUnhindered (Err fault.Memory) before after = ⊤
IsUnhindered (Err (fault.Write written)) before after = ¬ HadNoSetback before after
IsUnhindered other before after = ⊥

-- if the source has a file whose graph can be split as requested, nothing else made the run fail
abbrev pub EndsWell : {X : Type 0} → Cutting → Result X RunFault → Streams → Streams → Type 0
EndsWell cutting result before after =
    HasGraphToCut cutting before.source after.source → IsUnhindered result before.sink after.sink
