-- What a worker replies to the frames of a stream.
use Rattle.std.specs.Prelude.{◌≡◌, ℕ, ◌+◌, ◌≤◌, nat_le, ◌⊎◌, ⊤, IfSome, IsSome, ◌==◌, if◌then◌else◌, List, [], ◌∷◌, ◌++◌, length, take_while, Option, Some, None}
use Rattle.std.specs.Ordering.{nat_cmp}
use Rattle.std.specs.BTreeMap.{is_at}
use Rattle.std.specs.Map.{lookup}
use Rattle.limits.specs.declared.TheConstants.{MAX_SHARD_LINKS}
use Rattle.links.specs.declared.links.Link.{Link}
use Rattle.links.specs.Link.{EndsUpTo}
use Rattle.round_theory.specs.Offers.{AreLightOffers}
use Rattle.links.specs.AnswerValue.{AnswerValue}
use Rattle.frames.specs.FrameValue.{FrameValue, HelloFrame, ShardFrame, AskFrame, AnswerFrame, FaultFrame, value_of}
use Rattle.frames.specs.declared.frame.Frame.{Frame}
use Rattle.frames.specs.FrameText.{version_of, text_of}
use Rattle.frames.specs.Lawful.{IsVersion}
use Rattle.frames.specs.FrameStream.{texts_of, AreFramesOf}

-- the links that are stored under each number
abbrev pub Shelf : Type 0
Shelf = ℕ → Option (List Link)

abbrev pub empty_shelf : Shelf
empty_shelf = λ s. None

-- stored shards, each with its number
abbrev pub ShelfList : Type 0
ShelfList = List (ℕ × List Link)

-- the links that are stored under a number
abbrev pub shelf_of : ShelfList → Shelf
shelf_of kept = λ s. lookup (is_at (nat_cmp s)) kept

-- no shard has more links than are allowed
abbrev pub AreShort : Shelf → Type 0
AreShort shelf = (s : ℕ) → IfSome (shelf s) (λ links. length links ≤ MAX_SHARD_LINKS)

-- a shard's links are stored under its number and replace earlier ones
abbrev pub shelf_with : Shelf → FrameValue → Shelf
shelf_with shelf (ShardFrame number links) = λ s. if s == number then Some links else shelf s
shelf_with shelf v = shelf

abbrev pub shelf_after : Shelf → List FrameValue → Shelf
shelf_after shelf [] = shelf
shelf_after shelf (v ∷ frames) = shelf_after (shelf_with shelf v) frames

-- the answer to an ask for these links: it has the round and the shard of the ask, and the light offers
pub record IsAnswerTo (links : List Link) (round shard : ℕ) (labels : List ℕ) (answer : AnswerValue) : Type 0 where
  pub round_is : answer.round ≡ round
  pub shard_is : answer.shard ≡ shard
  pub ends : EndsUpTo (length labels) links
  pub light : AreLightOffers links labels answer.offers

-- The reply to an ask, by what is stored under the shard's number: code 2 if nothing is, code 3 if an endpoint has no
-- label, and otherwise the answer.
abbrev pub IsReply : Option (List Link) → ℕ → ℕ → List ℕ → FrameValue → Type 0
IsReply None round shard labels v = v ≡ FaultFrame round shard 2
IsReply (Some links) round shard labels (AnswerFrame answer) = IsAnswerTo links round shard labels answer
IsReply (Some links) round shard labels v = (v ≡ FaultFrame round shard 3) × ¬ EndsUpTo (length labels) links

-- code 1, which may replace the reply for a stored shard
abbrev pub IsWantOfMemory : Option (List Link) → ℕ → ℕ → FrameValue → Type 0
IsWantOfMemory None round shard v = ⊥
IsWantOfMemory (Some links) round shard v = v ≡ FaultFrame round shard 1

abbrev pub MayReply : Option (List Link) → ℕ → ℕ → List ℕ → FrameValue → Type 0
MayReply kept round shard labels v = IsReply kept round shard labels v ⊎ IsWantOfMemory kept round shard v

-- the reply to an ask, and nothing for any other frame
abbrev pub AreReplyTo : Shelf → FrameValue → List FrameValue → Type 0
AreReplyTo shelf (AskFrame round shard labels) out = (v : FrameValue) × (out ≡ v ∷ []) × IsReply (shelf shard) round shard labels v
AreReplyTo shelf v out = out ≡ []

-- what may be written for a frame: one reply to an ask, and nothing for any other frame
abbrev pub MayFollow : Shelf → FrameValue → List FrameValue → Type 0
MayFollow shelf (AskFrame round shard labels) out = (v : FrameValue) × (out ≡ v ∷ []) × MayReply (shelf shard) round shard labels v
MayFollow shelf v out = out ≡ []

-- what may be written for frames, one after the other
abbrev pub AreReplies : Shelf → List FrameValue → List FrameValue → Type 0
AreReplies shelf [] out = out ≡ []
AreReplies shelf (v ∷ frames) out =
    (now : List FrameValue) × (later : List FrameValue) × (out ≡ now ++ later) × MayFollow shelf v now × AreReplies (shelf_with shelf v) frames later

-- the frames that a worker of this version reads: those before the first of a later version, at which its session ends
abbrev pub heard_by : ℕ → List FrameValue → List FrameValue
heard_by version frames = take_while (λ v. nat_le (version_of v) version) frames

-- what worker `worker` of this version may write for a stream, its hello included
pub record Serves (version worker : ℕ) (stream out : List ℕ) : Type 0 where
  pub known : IsVersion version
  pub frames : List FrameValue
  pub replies : List FrameValue
  pub came : AreFramesOf stream frames
  pub answered : AreReplies empty_shelf (heard_by version frames) replies
  pub written : out ≡ text_of (HelloFrame version worker) ++ texts_of replies

-- how many asks there are
abbrev pub ask_bit : FrameValue → ℕ
ask_bit (AskFrame round shard labels) = 1
ask_bit v = 0

abbrev pub asks_in : List FrameValue → ℕ
asks_in [] = 0
asks_in (v ∷ frames) = ask_bit v + asks_in frames

-- a frame that needs memory, so that it may fail for lack of it: a shard, or an ask about a stored shard
abbrev pub MayWantMemory : Shelf → FrameValue → Type 0
MayWantMemory shelf (ShardFrame number links) = ⊤
MayWantMemory shelf (AskFrame round shard labels) = IsSome (shelf shard)
MayWantMemory shelf v = ⊥

abbrev pub IsShardFrame : FrameValue → Type 0
IsShardFrame (ShardFrame number links) = ⊤
IsShardFrame v = ⊥

-- the reply of an engine, if there is one
abbrev pub replies_in : {A : Type 0} → Option (Frame A) → List FrameValue
replies_in None = []
replies_in (Some reply) = value_of reply ∷ []
