-- The client of a worker over a line: what an ask sends, and what was sent and got so far.
use Rattle.std.specs.Prelude.{◌≡◌, ℕ, ◌+◌, ◌<◌, ◌≤◌, ⊤, Bool, true, false, ◌||◌, ◌==◌, if◌then◌else◌, List, [], ◌∷◌, ◌++◌, length, map, Option, Some, None, IsSome, IfSome, MatchOption}
use Rattle.std.specs.List.{All}
use Rattle.links.specs.declared.links.Link.{Link}
use Rattle.links.specs.Cut.{links_at}
use Rattle.links.specs.AnswerValue.{AnswerValue}
use Rattle.frames.specs.FrameValue.{FrameValue, HelloFrame, ShardFrame, AskFrame, AnswerFrame}
use Rattle.frames.specs.FrameText.{version_of, text_of}
use Rattle.frames.specs.Lawful.{IsVersion, IsAnswer}
use Rattle.frames.specs.FrameStream.{texts_of, AreLawful}
use Rattle.worker_replies.specs.Serving.{Shelf, empty_shelf, shelf_with, shelf_after}
use Rattle.claim_board.specs.Shards.{has_shard}
use Rattle.wires.specs.Lines.{LineState, Transfers}
use Rattle.round_theory.specs.Exchanges.{Exchange, IsAskedIn, answers_of}

-- a client: the line, the cut whose shards are asked about, the number of the worker, the version in its hello, if that
-- came, and the shards that were sent
pub record ClientState (L : Type 0) : Type 0 where
  pub line : L
  pub cut : List (List Link)
  pub worker : ℕ
  pub version : Option ℕ
  pub sent : List ℕ

-- a client, with the state of its line instead of the line
abbrev pub Client : Type 0
Client = ClientState LineState

abbrev pub seen_client : {L : Type 0} → (L → LineState) → ClientState L → Client
seen_client state client = record { line = state client.line; cut = client.cut; worker = client.worker; version = client.version; sent = client.sent }

-- ---- one ask

-- the hello of this version, unless one came before
abbrev pub hello_due : Option ℕ → ℕ → ℕ → List ℕ
hello_due None version worker = text_of (HelloFrame version worker)
hello_due (Some heard) version worker = []

-- the hello has come, and its version is this one
pub record HelloCame (version : ℕ) (before after : Option ℕ) : Type 0 where
  pub known : IsVersion version
  pub heard : after ≡ Some version
  pub stays : (v : ℕ) → before ≡ Some v → v ≡ version

-- the shard's frame, unless it was sent before
abbrev pub shard_due : Bool → ℕ → List Link → List FrameValue
shard_due true shard links = []
shard_due false shard links = ShardFrame shard links ∷ []

-- the frames that ask, in the order of their exchanges
abbrev pub ask_frames : List Exchange → List FrameValue
ask_frames exchanges = map (λ exchange. AskFrame exchange.round exchange.shard exchange.labels) exchanges

-- what an ask puts about the shard with these links, if the shards of this set were sent before
abbrev pub shard_put : List ℕ → ℕ → List Link → List FrameValue
shard_put sent shard links = shard_due (has_shard sent shard) shard links

-- the frames that an ask puts
abbrev pub frames_put : Client → ℕ → ℕ → List ℕ → List FrameValue
frames_put client round shard labels = shard_put client.sent shard (links_at client.cut shard) ++ AskFrame round shard labels ∷ []

-- a worker of this version has all these frames
abbrev pub HasFrames : ℕ → List FrameValue → Type 0
HasFrames version frames = All (λ v. version_of v ≤ version) frames

-- Up to this state of the line, the hello came if none had before, and the frames of an ask were put. The hello's
-- version has all of them, and no end was found.
pub record SendsAsk {L : Type 0} (state : L → LineState) (round shard : ℕ) (labels : List ℕ) (version : ℕ)
    (before : ClientState L) (asked : L) : Type 0 where
  pub went : Transfers 0 0 (texts_of (frames_put (seen_client state before) round shard labels))
      (hello_due before.version version before.worker) (state before.line) (state asked)
  pub has : HasFrames version (frames_put (seen_client state before) round shard labels)

-- an ask was put, after that these bytes came, and this many ends were found
pub record BringsUpTo {L : Type 0} (ends : ℕ) (state : L → LineState) (round shard : ℕ) (labels bytes : List ℕ)
    (before after : ClientState L) : Type 0 where
  pub version : ℕ
  pub greeted : HelloCame version before.version after.version
  pub asked : L
  pub sends : SendsAsk state round shard labels version before asked
  pub came : Transfers 0 ends [] bytes (state asked) (state after.line)

-- an ask was put, and after that these bytes came
abbrev pub Brings : {L : Type 0} → (L → LineState) → ℕ → ℕ → List ℕ → List ℕ → ClientState L → ClientState L → Type 0
Brings = BringsUpTo 0

-- the same, and then the line ended
abbrev pub EndsAfterAsk : {L : Type 0} → (L → LineState) → ℕ → ℕ → List ℕ → List ℕ → ClientState L → ClientState L → Type 0
EndsAfterAsk = BringsUpTo 1

-- An ask was answered: its frames were put and no others, and then the answer came. The hello has come, the shard has
-- been sent, and the rest of the client is as before.
pub record AnswersOverLine {L : Type 0} (state : L → LineState) (round shard : ℕ) (labels : List ℕ) (answer : AnswerValue)
    (before after : ClientState L) : Type 0 where
  pub brought : Brings state round shard labels (text_of (AnswerFrame answer)) before after
  pub lawful : IsAnswer answer
  pub sent : (s : ℕ) → has_shard after.sent s ≡ (s == shard || has_shard before.sent s)
  pub cut : after.cut ≡ before.cut
  pub worker : after.worker ≡ before.worker

-- ---- all that was said

-- the hello and the answers, if the hello came
abbrev pub frames_got : Option ℕ → ℕ → List AnswerValue → List FrameValue
frames_got (Some version) worker answers = HelloFrame version worker ∷ map AnswerFrame answers
frames_got None worker answers = []

-- the line got the hello and exactly these answers, in this order
pub record HasGiven (client : Client) (answers : List AnswerValue) : Type 0 where
  pub got : client.line.got ≡ Some (texts_of (frames_got client.version client.worker answers))
  pub lawful : AreLawful (map AnswerFrame answers)
  pub known : IfSome client.version IsVersion
  pub silent : client.version ≡ None → answers ≡ []

-- a shard of the cut, with its links there, or an ask about one
abbrev pub IsOfCut : List (List Link) → FrameValue → Type 0
IsOfCut cut (ShardFrame number links) = (number < length cut) × (links ≡ links_at cut number)
IsOfCut cut (AskFrame round shard labels) = shard < length cut
IsOfCut cut v = ⊥

-- how often a shard was sent in these frames
abbrev pub times_sent : ℕ → List FrameValue → ℕ
times_sent s [] = 0
times_sent s (ShardFrame number links ∷ frames) = (if s == number then 1 else 0) + times_sent s frames
times_sent s (v ∷ frames) = times_sent s frames

abbrev pub asks_among : List FrameValue → List FrameValue
asks_among [] = []
asks_among (AskFrame round shard labels ∷ frames) = AskFrame round shard labels ∷ asks_among frames
asks_among (v ∷ frames) = asks_among frames

-- each ask is about a shard that is on this shelf, or that the frames before the ask put there
abbrev pub FollowTheirShards : Shelf → List FrameValue → Type 0
FollowTheirShards shelf [] = ⊤
FollowTheirShards shelf (AskFrame round shard labels ∷ frames) = IsSome (shelf shard) × FollowTheirShards shelf frames
FollowTheirShards shelf (v ∷ frames) = FollowTheirShards (shelf_with shelf v) frames

-- Nothing failed, and exactly these frames were sent, none before the hello came:
-- - the shards of the cut that are in the set, once each, and no others; each was asked about
-- - the asks of the exchanges, in their order, each after its shard
--
-- The version of the worker has all of these frames. The hello and exactly the answers of the exchanges were got.
pub record MatchesLine (client : Client) (said : List FrameValue) (exchanges : List Exchange) : Type 0 where
  pub no_failure : client.line.failures ≡ 0
  pub sent : client.line.sent ≡ Some (texts_of said)
  pub lawful : AreLawful said
  pub only : All (IsOfCut client.cut) said
  pub once : (s : ℕ) → times_sent s said ≡ (if has_shard client.sent s then 1 else 0)
  pub needed : (s : ℕ) → has_shard client.sent s ≡ true → IsAskedIn exchanges s
  pub asked : asks_among said ≡ ask_frames exchanges
  pub first : FollowTheirShards empty_shelf said
  pub has : MatchOption client.version (said ≡ []) (λ version. HasFrames version said)
  pub gave : HasGiven client (answers_of exchanges)
  pub shelves : (s : ℕ) → s < length client.cut
      → shelf_after empty_shelf said s ≡ (if has_shard client.sent s then Some (links_at client.cut s) else None)
