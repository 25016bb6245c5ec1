-- Why a wire returns no answer.
use Rattle.std.specs.Prelude.{◌≡◌, ◌≢◌, ℕ, ◌⊎◌, ⊤, Bool, false, Option, None, List, []}
use Rattle.frames.specs.FrameValue.{FrameValue, HelloFrame, AnswerFrame, FaultFrame}
use Rattle.frames.specs.FrameText.{are_narrow, text_of}
use Rattle.frames.specs.FrameStream.{texts_of}
use Rattle.links.specs.declared.links.Link.{Link}
use Rattle.links.specs.Cut.{links_at}
use Rattle.claim_board.specs.Shards.{has_shard}
use Rattle.frames.specs.Lawful.{IsLawful}
use Rattle.frames.specs.Refusals.{StreamRefused}
use Rattle.frames.specs.ReadFault.{failures_of, ends_of}
use Rattle.frames.specs.declared.fault.FrameFault.{FrameFault}
use Rattle.frames.specs.declared.fault.FrameFault.TheVariants.{BadKind, BadLength, BadField, BadVersion, Ended, Torn, Device}
use Rattle.frames.specs.declared.fault.FrameFault.TheVariants.{Memory as NoMemory}
use Rattle.round_theory.specs.declared.fault.PortFault.{PortFault}
use Rattle.round_theory.specs.declared.fault.PortFault.TheVariants.{Down, Garbled, WrongHello, Gave, Memory, TooOld, Closed}
use Rattle.wires.specs.Lines.{LineState, Transfers, Counted}
use Rattle.wires.specs.Clients.{Client, ClientState, HelloCame, HasFrames, seen_client, hello_due, shard_put, Brings, EndsAfterAsk}

-- an error of bytes with which no lawful frame begins
abbrev pub IsGarble : FrameFault → Type 0
IsGarble BadKind = ⊤
IsGarble BadLength = ⊤
IsGarble BadField = ⊤
IsGarble BadVersion = ⊤
IsGarble _ = ⊥

-- a whole head or a whole body that no lawful frame has
abbrev pub IsBad : List ℕ → Type 0
IsBad bytes = (fault : FrameFault) × IsGarble fault × StreamRefused fault bytes

abbrev pub IsNoHelloOf : ℕ → FrameValue → Type 0
IsNoHelloOf worker v = (version : ℕ) → v ≢ HelloFrame version worker

abbrev pub IsNoReply : FrameValue → Type 0
IsNoReply (AnswerFrame answer) = ⊥
IsNoReply (FaultFrame round shard code) = ⊥
IsNoReply v = ⊤

-- bytes instead of a reply: bad ones, or a lawful frame that isn't a reply
abbrev pub IsGarbled : List ℕ → Type 0
IsGarbled bytes = IsBad bytes ⊎ ((v : FrameValue) × IsLawful v × IsNoReply v × (bytes ≡ text_of v))

-- the text of a worker's fault with this code
abbrev pub IsFaultText : ℕ → List ℕ → Type 0
IsFaultText code bytes = (round shard : ℕ) × IsLawful (FaultFrame round shard code) × (bytes ≡ text_of (FaultFrame round shard code))

-- bytes instead of a frame when the line ends: none, or some of a frame's
abbrev pub IsCutOff : List ℕ → Type 0
IsCutOff bytes = StreamRefused Ended bytes ⊎ StreamRefused Torn bytes

-- one call failed, and none found the end; nothing is said about the bytes
abbrev pub LineFailed : LineState → LineState → Type 0
LineFailed before after = Transfers 1 0 [] [] before after

-- the line failed; or these bytes came, no whole frame, then the end, and nothing was sent
abbrev pub GoesDown : LineState → LineState → Type 0
GoesDown before after = LineFailed before after ⊎ ((bytes : List ℕ) × IsCutOff bytes × Transfers 0 1 [] bytes before after)

-- these bytes were sent and nothing came
abbrev pub Transmits : List ℕ → LineState → LineState → Type 0
Transmits bytes before after = Transfers 0 0 bytes [] before after

-- these bytes came and nothing was sent
abbrev pub Receives : List ℕ → LineState → LineState → Type 0
Receives bytes before after = Transfers 0 0 [] bytes before after

-- these bytes came and nothing was sent; there was no memory for the body of their frame, or for its list
abbrev pub ReceivesUnkept : LineState → LineState → Type 0
ReceivesUnkept before after = (bytes : List ℕ) × StreamRefused NoMemory bytes × Receives bytes before after

-- ---- by the step of the ask

-- why no hello of the worker came
abbrev pub GreetingFault : PortFault → ℕ → LineState → LineState → Type 0
GreetingFault Down worker before after = GoesDown before after
GreetingFault Garbled worker before after = (bytes : List ℕ) × IsBad bytes × Receives bytes before after
GreetingFault WrongHello worker before after = (v : FrameValue) × IsLawful v × IsNoHelloOf worker v × Receives (text_of v) before after
GreetingFault Memory worker before after = ReceivesUnkept before after
GreetingFault _ worker before after = ⊥

-- the same, and no hello of any version came before
abbrev pub FailsToGreet : Option ℕ → ℕ → PortFault → LineState → LineState → Type 0
FailsToGreet heard worker fault before after = (heard ≡ None) × GreetingFault fault worker before after

-- why a frame wasn't sent; without memory it isn't encoded, and the line isn't called
abbrev pub SendingFault : PortFault → LineState → LineState → Type 0
SendingFault Down before after = LineFailed before after
SendingFault Memory before after = after ≡ before
SendingFault _ before after = ⊥

-- Why a shard that wasn't sent before can't be sent: the worker's version has no frame for it. This happens if the
-- version is 1 and a weight doesn't fit 32 bits.
abbrev pub LacksFrame : PortFault → (version : ℕ) → (sent : Bool) → List Link → Type 0
LacksFrame TooOld version sent links = (version ≡ 1) × (sent ≡ false) × (are_narrow links ≡ false)
LacksFrame _ version sent links = ⊥

-- why no answer came to what was sent
abbrev pub AnswerFault : PortFault → LineState → LineState → Type 0
AnswerFault Down before after = GoesDown before after
AnswerFault Garbled before after = (bytes : List ℕ) × IsGarbled bytes × Receives bytes before after
AnswerFault (Gave code) before after = (bytes : List ℕ) × IsFaultText code bytes × Receives bytes before after
AnswerFault Memory before after = ReceivesUnkept before after
AnswerFault _ before after = ⊥

-- ---- of the whole ask

-- no hello came before this ask, and the first bytes caused the error
abbrev pub MissesHello : PortFault → Client → Client → Type 0
MissesHello fault before after = (before.version ≡ None) × GreetingFault fault before.worker before.line after.line

-- the hello of this version has come, these frames were put, and nothing else was sent or came
pub record SendsTo (version : ℕ) (frames : List FrameValue) (before after : Client) : Type 0 where
  pub greeted : HelloCame version before.version after.version
  pub went : Transfers 0 0 (texts_of frames) (hello_due before.version version before.worker) before.line after.line
  pub has : HasFrames version frames

-- the hello has come, its version has all these frames, they were put, and nothing else was sent or came
abbrev pub Sends : List FrameValue → Client → Client → Type 0
Sends frames before after = (version : ℕ) × SendsTo version frames before after

-- For what there was no memory in an ask: the hello that came, the frame of a shard that wasn't sent before, the frame
-- of the ask, or the reply that came. In each case no call failed and none found the end.
pub data IsWanting {L : Type 0} (state : L → LineState) (round shard : ℕ) (labels : List ℕ) (before after : ClientState L) : Type 0 where
  InHello : MissesHello Memory (seen_client state before) (seen_client state after) → IsWanting state round shard labels before after
  InShard : has_shard before.sent shard ≡ false → Sends [] (seen_client state before) (seen_client state after)
      → IsWanting state round shard labels before after
  InAsk : Sends (shard_put before.sent shard (links_at before.cut shard)) (seen_client state before) (seen_client state after)
      → IsWanting state round shard labels before after
  InReply : (bytes : List ℕ) → StreamRefused NoMemory bytes → Brings state round shard labels bytes before after
      → IsWanting state round shard labels before after

-- The worker's hello was of the first version, the shard wasn't sent before, and no frame of that version has its
-- links. Nothing was put.
pub record IsTooOld (shard : ℕ) (before after : Client) : Type 0 where
  pub unsent : has_shard before.sent shard ≡ false
  pub wide : are_narrow (links_at before.cut shard) ≡ false
  pub sends : SendsTo 1 [] before after

-- Why an ask over an open wire got no answer, by the bytes that came in it and by what the line counted. It is `Down`
-- if the line failed, or if it ended instead of the hello, or instead of the reply after the ask was put.
abbrev pub Cause : {L : Type 0} → (L → LineState) → PortFault → ℕ → ℕ → List ℕ → ClientState L → ClientState L → Type 0
Cause state Down round shard labels before after =
    LineFailed (state before.line) (state after.line)
    ⊎ (MissesHello Down (seen_client state before) (seen_client state after)
    ⊎ ((bytes : List ℕ) × IsCutOff bytes × EndsAfterAsk state round shard labels bytes before after))
Cause state Garbled round shard labels before after =
    MissesHello Garbled (seen_client state before) (seen_client state after)
    ⊎ ((bytes : List ℕ) × IsGarbled bytes × Brings state round shard labels bytes before after)
Cause state WrongHello round shard labels before after = MissesHello WrongHello (seen_client state before) (seen_client state after)
Cause state (Gave code) round shard labels before after =
    (bytes : List ℕ) × IsFaultText code bytes × Brings state round shard labels bytes before after
Cause state Memory round shard labels before after = IsWanting state round shard labels before after
Cause state TooOld round shard labels before after = IsTooOld shard (seen_client state before) (seen_client state after)
Cause state Closed round shard labels before after = ⊥

-- What a line counted in an ask that got no answer, even if its bytes aren't known. If the wire is `Down`, one call
-- failed or one found the end; with any other error, neither.
abbrev pub CountedFault : PortFault → LineState → LineState → Type 0
CountedFault Down before after = Counted 1 0 before after ⊎ Counted 0 1 before after
CountedFault Closed before after = ⊥
CountedFault fault before after = Counted 0 0 before after

-- an error that a wire over a faithful line may return
abbrev pub IsBlameless : PortFault → Type 0
IsBlameless Garbled = ⊥
IsBlameless WrongHello = ⊥
IsBlameless (Gave code) = code ≡ 1
IsBlameless _ = ⊤

-- the error of a wire if no frame could be read
abbrev pub port_fault : FrameFault → PortFault
port_fault Ended = Down
port_fault Torn = Down
port_fault Device = Down
port_fault NoMemory = Memory
port_fault _ = Garbled

-- no frame could be read: bytes came that are rejected with this error
abbrev pub FailsToRead : FrameFault → LineState → LineState → Type 0
FailsToRead fault before after = (bytes : List ℕ) × StreamRefused fault bytes × Transfers (failures_of fault) (ends_of fault) [] bytes before after
