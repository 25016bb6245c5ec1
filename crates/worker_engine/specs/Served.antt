-- How a session ends: what was read from the source, and what was written to the sink.
use Rattle.std.specs.Prelude.{◌≡◌, ◌≢◌, ℕ, ◌+◌, ◌<◌, ◌⊎◌, List, [], ◌∷◌, ◌++◌, length, take}
use Rattle.std.specs.List.{flat_map}
use Rattle.byte_streams.specs.Streams.{SourceState, Gave, SinkState, Took}
use Rattle.links.specs.declared.links.Link.{Link}
use Rattle.links.specs.Offers.{Offer}
use Rattle.frames.specs.FrameValue.{FrameValue, ShardFrame, AnswerFrame, FaultFrame}
use Rattle.frames.specs.declared.frame.TheConstants.{VERSION}
use Rattle.frames.specs.FrameText.{offer_text, text_of}
use Rattle.frames.specs.Lawful.{IsLawful}
use Rattle.frames.specs.FrameStream.{texts_of, AreLawful}
use Rattle.frames.specs.Refusals.{StreamRefused}
use Rattle.frames.specs.ReadFault.{IsReadRefused, failures_of, ends_of}
use Rattle.frames.specs.declared.fault.FrameFault.{FrameFault}
use Rattle.frames.specs.declared.fault.FrameFault.TheVariants.{Ended}
use Rattle.worker_engine.specs.declared.session.Served.{Served}
use Rattle.worker_engine.specs.declared.session.ServeFault.{ServeFault}
use Rattle.worker_engine.specs.declared.session.ServeFault.TheVariants.{Read, Write, Memory, TooMany}
use Rattle.worker_engine.specs.declared.session.Written.{Written}
use Rattle.worker_engine.specs.declared.session.Written.TheVariants.{Nothing, AnAnswer, AFault}
use Rattle.worker_replies.specs.Serving.{Shelf, shelf_with, MayFollow, Serves, IsShardFrame}

-- how many answers there are, and how many faults
abbrev pub answer_bit : FrameValue → ℕ
answer_bit (AnswerFrame answer) = 1
answer_bit v = 0

abbrev pub answers_in : List FrameValue → ℕ
answers_in [] = 0
answers_in (v ∷ frames) = answer_bit v + answers_in frames

abbrev pub fault_bit : FrameValue → ℕ
fault_bit (FaultFrame round shard code) = 1
fault_bit v = 0

abbrev pub faults_in : List FrameValue → ℕ
faults_in [] = 0
faults_in (v ∷ frames) = fault_bit v + faults_in frames

-- the whole lawful frames that a session of this version read, and what it owes for them
pub record HeardFrames (worker : ℕ) : Type 0 where
  pub frames : List FrameValue
  pub lawful : AreLawful frames
  pub out : List ℕ
  pub serves : Serves VERSION worker (texts_of frames) out

-- the counts are those of the frames that were read, and of the answers and faults that are owed
pub record AreCounts (worker : ℕ) (heard : HeardFrames worker) (served : Served) : Type 0 where
  pub frames : served.frames ≡ length heard.frames
  pub answers : served.answers ≡ answers_in heard.serves.replies
  pub faults : served.faults ≡ faults_in heard.serves.replies

-- the source ended after whole lawful frames, and what is owed for them was written
pub record ServesToEnd (worker : ℕ) (served : Served) (source source' : SourceState) (sink sink' : SinkState) : Type 0 where
  pub heard : HeardFrames worker
  pub counts : AreCounts worker heard served
  pub gave : Gave 0 1 (texts_of heard.frames) source source'
  pub took : Took 0 heard.out sink sink'

-- no frame could be read after those that were, and what is owed for these was written
pub record EndsAtRead (worker : ℕ) (fault : FrameFault) (source source' : SourceState) (sink sink' : SinkState) : Type 0 where
  pub heard : HeardFrames worker
  pub bytes : List ℕ
  pub inside : fault ≢ Ended
  pub refused : StreamRefused fault bytes
  pub gave : Gave (failures_of fault) (ends_of fault) (texts_of heard.frames ++ bytes) source source'
  pub took : Took 0 heard.out sink sink'

-- a write failed: a prefix of what is owed was written, and not all of it
pub record EndsAtWrite (worker : ℕ) (source source' : SourceState) (sink sink' : SinkState) : Type 0 where
  pub heard : HeardFrames worker
  pub count : ℕ
  pub short : count < length heard.out
  pub gave : Gave 0 0 (texts_of heard.frames) source source'
  pub took : Took 1 (take count heard.out) sink sink'

-- the last of the frames is a shard
abbrev pub EndWithShard : List FrameValue → Type 0
EndWithShard frames = (before : List FrameValue) × (number : ℕ) × (links : List Link) × (frames ≡ before ++ ShardFrame number links ∷ [])

-- There was no memory for the hello, and nothing was written; or there was none for a shard, and what is owed was
-- written.
pub record EndsAtMemory (worker : ℕ) (source source' : SourceState) (sink sink' : SinkState) : Type 0 where
  pub heard : HeardFrames worker
  pub written : List ℕ
  pub cause : ((heard.frames ≡ []) × (written ≡ []))
      ⊎ ((written ≡ heard.out) × EndWithShard heard.frames)
  pub gave : Gave 0 0 (texts_of heard.frames) source source'
  pub took : Took 0 written sink sink'

-- as many frames as the limit were read, and what is owed for them was written
pub record EndsAtLimit (worker limit : ℕ) (source source' : SourceState) (sink sink' : SinkState) : Type 0 where
  pub heard : HeardFrames worker
  pub all : length heard.frames ≡ limit
  pub gave : Gave 0 0 (texts_of heard.frames) source source'
  pub took : Took 0 heard.out sink sink'

-- how a session ends with an error
abbrev pub EndsBy : ℕ → ℕ → ServeFault → SourceState → SourceState → SinkState → SinkState → Type 0
EndsBy worker limit (Read fault) source source' sink sink' = EndsAtRead worker fault source source' sink sink'
EndsBy worker limit Write source source' sink sink' = EndsAtWrite worker source source' sink sink'
EndsBy worker limit Memory source source' sink sink' = EndsAtMemory worker source source' sink sink'
EndsBy worker limit TooMany source source' sink sink' = EndsAtLimit worker limit source source' sink sink'

-- ---- one frame

-- the frames are of the kind that was written: none, an answer, or a fault
abbrev pub IsSortOf : Written → List FrameValue → Type 0
IsSortOf Nothing now = now ≡ []
IsSortOf AnAnswer now = (length now ≡ 1) × (answers_in now ≡ 1) × (faults_in now ≡ 0)
IsSortOf AFault now = (length now ≡ 1) × (answers_in now ≡ 0) × (faults_in now ≡ 1)

-- the counts of answers and faults rose by what was written
abbrev pub CountsReplies : Written → Served → Served → Type 0
CountsReplies written served served' = (now : List FrameValue) → IsSortOf written now
    → (served'.answers ≡ served.answers + answers_in now) × (served'.faults ≡ served.faults + faults_in now)

-- each is an answer or a fault
abbrev pub AreAnswersOrFaults : List FrameValue → Type 0
AreAnswersOrFaults replies = answers_in replies + faults_in replies ≡ length replies

-- the next frame came and was taken, and these replies may be written for it
pub record HearsNext (replies : List FrameValue) (shelf shelf' : Shelf) (source source' : SourceState) : Type 0 where
  pub v : FrameValue
  pub lawful : IsLawful v
  pub gave : Gave 0 0 (text_of v) source source'
  pub kept : shelf' ≡ shelf_with shelf v
  pub may : MayFollow shelf v replies

-- no frame was taken: none could be read, or there was no memory to store a shard
abbrev pub HearsNone : ServeFault → SourceState → SourceState → Type 0
HearsNone (Read fault) source source' = IsReadRefused fault source source'
HearsNone Memory source source' = (v : FrameValue) × IsShardFrame v × IsLawful v × Gave 0 0 (text_of v) source source'
HearsNone fault source source' = ⊥

-- the replies were written, and are of this kind
pub record WroteFor (replies : List FrameValue) (written : Written) (sink sink' : SinkState) : Type 0 where
  pub sort : IsSortOf written replies
  pub took : Took 0 (texts_of replies) sink sink'

-- a write failed after less than the text was written
pub record CutOff (text : List ℕ) (sink sink' : SinkState) : Type 0 where
  pub count : ℕ
  pub short : count < length text
  pub took : Took 1 (take count text) sink sink'

-- a head was written, and the first offers after it; the rest of them wasn't
pub record WroteSome (head : List ℕ) (offers rest : List Offer) (sink sink' : SinkState) : Type 0 where
  pub first : List Offer
  pub split : offers ≡ first ++ rest
  pub took : Took 0 (head ++ flat_map offer_text first) sink sink'

-- the hello wasn't written
abbrev pub Ungreeted : ServeFault → List ℕ → SinkState → SinkState → Type 0
Ungreeted Write hello sink sink' = CutOff hello sink sink'
Ungreeted Memory hello sink sink' = Took 0 [] sink sink'
Ungreeted fault hello sink sink' = ⊥
