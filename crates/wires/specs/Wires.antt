use Rattle.std.specs.Prelude.{◌≡◌, ◌≢◌, ℕ, ◌+◌, ◌<◌, ◌≤◌, ◌⊎◌, Bool, true, false, List, [], ◌∷◌, length, None}
use Rattle.limits.specs.declared.TheConstants.{MAX_WORKERS}
use Rattle.links.specs.declared.links.Link.{Link}
use Rattle.claim_board.specs.Shards.{has_shard}
use Rattle.frames.specs.FrameValue.{FrameValue, AskFrame}
use Rattle.wires.specs.declared.line.Line as Line
use Rattle.round_theory.specs.declared.port.Port as Port
use Rattle.wires.specs.Lines.{LineState, HasRoom, Counted, ServesSoFar}
use Rattle.round_theory.specs.Exchanges.{Exchange, answers_of}
use Rattle.round_theory.specs.Ports.{PortState, failure_of, want_of}
use Rattle.wires.specs.Clients.{ClientState, seen_client, HasGiven, MatchesLine}
use Rattle.round_theory.specs.declared.fault.PortFault.{PortFault}
use Rattle.round_theory.specs.declared.fault.PortFault.TheVariants.{Closed}
use Rattle.wires.specs.Causes.{Cause, CountedFault, IsBlameless}

-- a wire: its client, whether it is open, its counts, and the round and the shard of its last ask
pub record WireState (L : Type 0) : Type 0 where
  pub client : ClientState L
  pub is_open : Bool
  pub asks : ℕ
  pub failures : ℕ
  pub wants : ℕ
  pub last : ℕ × ℕ

-- what every wire obeys: its worker's number is in range, an open wire's line can count further, and each error was an
-- ask
pub record IsWire (line : LineState) (worker : ℕ) (is_open : Bool) (asks failures wants : ℕ) : Type 0 where
  pub below : worker < MAX_WORKERS
  pub room : is_open ≡ true → HasRoom line
  pub counted : failures + wants ≤ asks

-- a wire before its first ask
pub record IsNewWire {L : Type 0} (line : L) (cut : List (List Link)) (worker : ℕ) (wire : WireState L) : Type 0 where
  pub line_is : wire.client.line ≡ line
  pub cut_is : wire.client.cut ≡ cut
  pub worker_is : wire.client.worker ≡ worker
  pub ungreeted : wire.client.version ≡ None
  pub nothing_sent : (s : ℕ) → has_shard wire.client.sent s ≡ false
  pub opened : wire.is_open ≡ true
  pub asks : wire.asks ≡ 0
  pub failures : wire.failures ≡ 0
  pub wants : wire.wants ≡ 0
  pub last : wire.last ≡ (0, 0)

-- as a port
abbrev pub port_of : {L : Type 0} → WireState L → PortState
port_of wire = record {
  cut = wire.client.cut;
  worker = wire.client.worker;
  is_open = wire.is_open;
  asks = wire.asks;
  failures = wire.failures;
  wants = wire.wants;
  last = wire.last;
}

-- ---- by what its line counts, whether or not its bytes are known

-- no ask to the open wire got an error, and since this state of its line no call failed and none found the end
pub record IsQuiet {L : Type 0} (state : L → LineState) (wire : WireState L) (start : LineState) : Type 0 where
  pub counted : Counted 0 0 start (state wire.client.line)
  pub failures : wire.failures ≡ 0
  pub wants : wire.wants ≡ 0

-- one ask got an error, which closed the wire; since this state of its line exactly what fits that error was counted
pub record HasFaulted {L : Type 0} (state : L → LineState) (wire : WireState L) (start : LineState) : Type 0 where
  pub closed : wire.is_open ≡ false
  pub fault : PortFault
  pub counted : CountedFault fault start (state wire.client.line)
  pub failures : wire.failures ≡ failure_of fault
  pub wants : wire.wants ≡ want_of fault

-- what its line counted since this state, in which the wire was new: nothing, and it is open or was shut; or what
-- closed it
abbrev pub IsCountedWire : {L : Type 0} → (L → LineState) → WireState L → LineState → Type 0
IsCountedWire state wire start = IsQuiet state wire start ⊎ HasFaulted state wire start

-- ---- by what is known of its line

-- its line got exactly the answers of these exchanges
abbrev pub WireExchanged : {L : Type 0} → (L → LineState) → WireState L → List Exchange → Type 0
WireExchanged state wire exchanges = HasGiven (seen_client state wire.client) (answers_of exchanges)

-- why one of its asks got no answer
abbrev pub WireCause : {L : Type 0} → (L → LineState) → PortFault → (round shard : ℕ) → List ℕ → WireState L → WireState L → Type 0
WireCause state fault round shard labels before after = Cause state fault round shard labels before.client after.client

-- the round and the shard of the last ask among these frames, or `last` if there is none
abbrev pub last_ask : ℕ × ℕ → List FrameValue → ℕ × ℕ
last_ask last [] = last
last_ask last (AskFrame round shard labels ∷ frames) = last_ask (round, shard) frames
last_ask last (v ∷ frames) = last_ask last frames

-- Over a line that was fresh and had found `ends` ends: nothing failed, and no more ends were found. Exactly these
-- frames were sent: shards of its cut, none twice, and the asks of the exchanges. The hello and exactly the answers of
-- the exchanges were got, one for each ask that the wire counts.
pub record IsFaultless {L : Type 0} (state : L → LineState) (ends : ℕ) (wire : WireState L)
    (said : List FrameValue) (exchanges : List Exchange) : Type 0 where
  pub in_step : MatchesLine (seen_client state wire.client) said exchanges
  pub ends_are : (state wire.client.line).ends ≡ ends
  pub asks : wire.asks ≡ length exchanges
  pub failures : wire.failures ≡ 0
  pub wants : wire.wants ≡ 0
  pub last : wire.last ≡ last_ask (0, 0) said

-- Its last ask, after these exchanges, was the first without an answer, and ended with an error of this kind. The cause
-- is known from the wire before that ask, faultless and open, and the wire after it.
pub record HasFailed {L : Type 0} (state : L → LineState) (ends : ℕ) (exchanges : List Exchange)
    (kind : PortFault → Type 0) (wire : WireState L) : Type 0 where
  pub before : WireState L
  pub said : List FrameValue
  pub faultless : IsFaultless state ends before said exchanges
  pub was_open : before.is_open ≡ true
  pub same_cut : wire.client.cut ≡ before.client.cut
  pub same_worker : wire.client.worker ≡ before.client.worker
  pub fault : PortFault
  pub is_kind : kind fault
  pub in_cut : wire.last.1 < length wire.client.cut
  pub labels : List ℕ
  pub cause : WireCause state fault wire.last.0 wire.last.1 labels before wire
  pub asks : wire.asks ≡ before.asks + 1
  pub failures : wire.failures ≡ failure_of fault
  pub wants : wire.wants ≡ want_of fault

-- over a line that had found `ends` ends, it returned exactly these answers and is faultless, open or shut; or an error
-- of this kind closed it
abbrev pub IsTrueSoFar : {L : Type 0} → (L → LineState) → (PortFault → Type 0) → WireState L → ℕ → List Exchange → Type 0
IsTrueSoFar state kind wire ends exchanges =
    ((said : List FrameValue) × IsFaultless state ends wire said exchanges)
    ⊎ ((wire.is_open ≡ false) × HasFailed state ends exchanges kind wire)

-- What it returned is true, over a line that had found `ends` ends when the wire was new. It returned exactly these
-- answers and is faultless, or an error that has its cause closed it.
abbrev pub IsSoundWire : {L : Type 0} → (L → LineState) → WireState L → ℕ → List Exchange → Type 0
IsSoundWire state wire ends exchanges = IsTrueSoFar state (λ fault. fault ≢ Closed) wire ends exchanges

-- the worker served it in an ask: it was sound before, and what its line has got is a prefix of what the worker may
-- write
abbrev pub ServesWire : {L : Type 0} → (L → LineState) → (before after : WireState L) → Type 0
ServesWire state before after =
    ((ends : ℕ) × (exchanges : List Exchange) × IsSoundWire state before ends exchanges)
    × ServesSoFar before.client.worker (state after.client.line)

-- It is faultless, or an error closed it for which nobody is to blame. How many ends the line had found and what was
-- exchanged is left open here; `IsSoundWire` says it.
abbrev pub IsBlamelessWire : {L : Type 0} → (L → LineState) → WireState L → Type 0
IsBlamelessWire state wire = (ends : ℕ) × (exchanges : List Exchange) × IsTrueSoFar state IsBlameless wire ends exchanges

-- its line is faithful for its worker, and it is blameless
abbrev pub IsHonestWire : {L : Type 0} → Line.Ghosts L → WireState L → Type 0
IsHonestWire over wire = over.faithful wire.client.line wire.client.worker × IsBlamelessWire over.state wire

-- what is known of wires over such lines as ports
abbrev pub wire_port : {L : Type 0} → (A : Type 0) → Line.Ghosts L → Port.Ghosts (WireState L) A
wire_port A over = record { state = port_of; honest = IsHonestWire over; exchanged = WireExchanged over.state; sound = IsSoundWire over.state }
