-- A session between two frames.
use Rattle.std.specs.Prelude.{◌≡◌, ℕ, List, ◌++◌, length}
use Rattle.frames.specs.FrameValue.{FrameValue, HelloFrame}
use Rattle.frames.specs.declared.frame.TheConstants.{VERSION}
use Rattle.frames.specs.FrameText.{text_of}
use Rattle.frames.specs.FrameStream.{texts_of, AreLawful}
use Rattle.worker_replies.specs.Serving.{Shelf, empty_shelf, shelf_after, AreReplies}

-- a session of a worker of this version: its stored shards, the bytes that came, how many of them were read as frames,
-- and what it wrote
pub record InSession (worker : ℕ) (shelf : Shelf) (input out : List ℕ) (heard : ℕ) : Type 0 where
  pub frames : List FrameValue
  pub replies : List FrameValue
  pub rest : List ℕ
  pub lawful : AreLawful frames
  pub came : input ≡ texts_of frames ++ rest
  pub heard_is : heard ≡ length (texts_of frames)
  pub shelf_is : shelf ≡ shelf_after empty_shelf frames
  pub answered : AreReplies empty_shelf frames replies
  pub written : out ≡ text_of (HelloFrame VERSION worker) ++ texts_of replies
