-- Lines to workers, and a run over new wires over them.
use Rattle.std.specs.Prelude.{◌≡◌, ℕ, ◌<◌, List, length, map, sum_by, slice_index_or, All, Contains}
use Rattle.links.specs.declared.links.Link.{Link}
use Rattle.frames.specs.FrameValue.{FrameValue}
use Rattle.round_theory.specs.Offers.{Names}
use Rattle.worker_replies.specs.Serving.{asks_in}
use Rattle.round_core.specs.BookValue.{hearing_of}
use Rattle.round_core.specs.declared.solver.SolveFault.{SolveFault}
use Rattle.wires.specs.declared.line.Line as Line
use Rattle.wires.specs.Lines.{LineState, IsFresh, HasKnownBytes}
use Rattle.round_theory.specs.Exchanges.{Exchange}
use Rattle.wires.specs.Clients.{Client, MatchesLine}
use Rattle.wires.specs.Wires.{WireState, IsNewWire, wire_port, IsHonestWire, IsSoundWire}
use Rattle.plain_run.specs.declared.report.Report.{Report}
use Rattle.port_rounds.specs.Lanes.{LaneState, IsIdle}
use Rattle.port_rounds.specs.Solved.{FindsForest, RefusesRun}

-- ---- the lines

-- each line is new, and its bytes are known
abbrev pub AreFresh : {L : Type 0} → (L → LineState) → List L → Type 0
AreFresh state lines = All (λ line. IsFresh (state line) × HasKnownBytes (state line)) lines

-- the line at each index is faithful for the worker of that number
abbrev pub AreFaithful : {L : Type 0} → Line.Ghosts L → List L → Type 0
AreFaithful over lines = (worker : ℕ) (d : _) → worker < length lines → over.faithful (slice_index_or lines worker d) worker

-- each line is new, with known bytes, and faithful for its worker
abbrev pub AreServed : {L : Type 0} → Line.Ghosts L → List L → Type 0
AreServed over lines = AreFresh over.state lines × AreFaithful over lines

-- lanes with a new wire over each line: the wire at each index is to the worker of that number
pub record AreNewLanes {L : Type 0} (lines : List L) (cut : List (List Link)) (lanes : List (LaneState (WireState L))) : Type 0 where
  pub number : length lanes ≡ length lines
  pub each : (worker : ℕ) (line : L) (lane : LaneState (WireState L)) → worker < length lines
      → IsNewWire (slice_index_or lines worker line) cut worker (slice_index_or lanes worker lane).port
  pub idle : All IsIdle lanes

-- the lines of lanes, in their order
abbrev pub lines_of : {L : Type 0} → List (LaneState (WireState L)) → List L
lines_of lanes = map (λ lane. lane.port.client.line) lanes

-- ---- what a run does to them

-- What a wire over this line, which was new before a run, is after it. It is to this worker, and if it was closed it is
-- known why, whatever the other lines are.
pub record IsLeftWire {L : Type 0} (over : Line.Ghosts L) (worker : ℕ) (line : L) (wire : WireState L) : Type 0 where
  pub worker_is : wire.client.worker ≡ worker
  -- if the line was new, with known bytes, and counting from the ends that it had found before the run
  pub sound : IsFresh (over.state line) → HasKnownBytes (over.state line)
      → (exchanges : List Exchange) × IsSoundWire over.state wire (over.state line).ends exchanges
  -- and if it carries its worker's session too
  pub honest : IsFresh (over.state line) → HasKnownBytes (over.state line) → over.faithful line worker → IsHonestWire over wire

-- the wires that lanes with new wires over these lines have after a run: each is to the worker of its index
abbrev pub AreLeftWires : {L : Type 0} → Line.Ghosts L → List L → List (LaneState (WireState L)) → Type 0
AreLeftWires {L = L} over lines ended =
    (worker : ℕ) (line : L) (lane : LaneState (WireState L)) → worker < length lines
    → IsLeftWire over worker (slice_index_or lines worker line) (slice_index_or ended worker lane).port

-- Over new wires, a run of their lanes found this forest of the cut's links, for the vertices 1 to `n`. The lines were
-- taken out again in their order.
pub record FindsOverLines {L : Type 0} (A : Type 0) (over : Line.Ghosts L) (n : ℕ) (cut : List (List Link)) (before after : List L)
    (forest : List Link) (report : Report) : Type 0 where
  pub lanes : List (LaneState (WireState L))
  pub new : AreNewLanes before cut lanes
  pub ended : List (LaneState (WireState L))
  pub went : FindsForest (wire_port A over) n cut lanes ended forest report
  pub wires : AreLeftWires over before ended
  pub lines_are : after ≡ lines_of ended

-- over new wires, the solver rejects the answers in the rounds of a run with this error
pub record RefusesOverLines {L : Type 0} (A : Type 0) (over : Line.Ghosts L) (n : ℕ) (cut : List (List Link)) (lines : List L)
    (fault : SolveFault) : Type 0 where
  pub lanes : List (LaneState (WireState L))
  pub new : AreNewLanes lines cut lanes
  pub ended : List (LaneState (WireState L))
  pub refused : RefusesRun (wire_port A over) n cut lanes ended fault
  pub wires : AreLeftWires over lines ended

-- ---- the bytes on the lines

-- what was exchanged with a worker: the frames that were sent, and the asks among them with their answers
abbrev pub Transcript : Type 0
Transcript = List FrameValue × List Exchange

-- All that was exchanged over a new line with this worker about shards of the cut:
-- - These frames were sent, and nothing else: each shard that was asked about, once and before its first ask, and the
--   asks of the exchanges.
-- - The worker's hello and the answers of the exchanges were got, and nothing else; or nothing at all, if no hello
--   came.
pub record HasTranscript (cut : List (List Link)) (worker : ℕ) (line : LineState) (said : Transcript) : Type 0 where
  pub client : Client
  pub worker_is : client.worker ≡ worker
  pub line_is : client.line ≡ line
  pub cut_is : client.cut ≡ cut
  pub in_step : MatchesLine client said.0 said.1

-- an answer that came names the link
abbrev pub IsNamedInTranscripts : List (List Link) → List Transcript → Link → Type 0
IsNamedInTranscripts cut transcripts l =
    (said : Transcript) × (exchange : Exchange)
    × Contains transcripts said × Contains said.1 exchange × Names (hearing_of cut exchange.answer) l

-- What was sent and got over all lines, at each index. There are `asked` asks in all, and one of the answers names each
-- link of the forest.
pub record HaveTranscripts {L : Type 0} (state : L → LineState) (cut : List (List Link)) (forest : List Link) (asked : ℕ)
    (lines : List L) : Type 0 where
  pub transcripts : List Transcript
  pub number : length transcripts ≡ length lines
  pub each : (worker : ℕ) (line : L) (said : Transcript) → worker < length lines
      → HasTranscript cut worker (state (slice_index_or lines worker line)) (slice_index_or transcripts worker said)
  pub asks : sum_by (λ said. asks_in said.0) transcripts ≡ asked
  pub named : (l : Link) → Contains forest l → IsNamedInTranscripts cut transcripts l
