-- The laws of sessions.
use Rattle.std.specs.Prelude.{◌≡◌, ◌↔◌, ℕ, List, [], ◌∷◌, ◌++◌, Option, IsSome}
use Rattle.links.specs.declared.links.Link.{Link}
use Rattle.frames.specs.FrameValue.{FrameValue, HelloFrame, AskFrame, FaultFrame}
use Rattle.frames.specs.FrameText.{text_of}
use Rattle.frames.specs.FrameStream.{texts_of, AreLawful}
use Rattle.worker_replies.specs.Serving.{Shelf, IsReply, MayFollow, Serves}

-- Whatever may be written for a stream begins with something that may be written for any given prefix of it.
abbrev pub PrefixHasPrefixReplies : Type 0
PrefixHasPrefixReplies = (version worker : ℕ) (prefix rest out : List ℕ) → Serves version worker (prefix ++ rest) out
    → (early : List ℕ) × (late : List ℕ) × (out ≡ early ++ late) × Serves version worker prefix early

-- What may be written is the hello and the texts of lawful frames.
abbrev pub RepliesAreLawful : Type 0
RepliesAreLawful = (version worker : ℕ) (stream out : List ℕ) → Serves version worker stream out
    → (replies : List FrameValue) × AreLawful replies × (out ≡ text_of (HelloFrame version worker) ++ texts_of replies)

-- There is only one reply to an ask, apart from code 1.
abbrev pub OneReply : Type 0
OneReply = (kept : Option (List Link)) (round shard : ℕ) (labels : List ℕ) (v w : FrameValue)
    → IsReply kept round shard labels v → IsReply kept round shard labels w → v ≡ w

-- Code 1 may be written for an ask exactly if its shard is stored.
abbrev pub CodeOneWhereKept : Type 0
CodeOneWhereKept = (shelf : Shelf) (round shard : ℕ) (labels : List ℕ)
    → MayFollow shelf (AskFrame round shard labels) (FaultFrame round shard 1 ∷ []) ↔ IsSome (shelf shard)
