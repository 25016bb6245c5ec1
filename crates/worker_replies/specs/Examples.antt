-- Worked examples of what a worker of version 1 may write.
use Rattle.std.specs.Prelude.{pos, ◌^◌, List, [], ◌∷◌, ◌++◌}
use Rattle.std.proofs.Common.{lit≤, lit<}
use Rattle.links.specs.declared.links.Link.{Link}
use Rattle.frames.specs.FrameValue.{FrameValue, HelloFrame, ShardFrame, AskFrame, FaultFrame}
use Rattle.frames.specs.FrameText.{text_of}
use Rattle.frames.specs.FrameStream.{texts_of}
use Rattle.worker_replies.specs.Serving.{Serves}

-- shard 0 is asked for in round 1, before any shard was sent
abbrev pub asked : List FrameValue
asked = AskFrame 1 0 (1 ∷ []) ∷ []

-- code 2 may be written for that
abbrev pub FirstVersionReplies : Type 0
FirstVersionReplies = Serves 1 0 (texts_of asked) (text_of (HelloFrame 1 0) ++ texts_of (FaultFrame 1 0 2 ∷ []))

-- a link whose weight doesn't fit 32 bits
abbrev pub wide_link : Link
wide_link = record {
  weight = pos (2 ^ 31);
  low = 1;
  high = 2;
  from_one = lit≤ tt;
  ascending = lit< tt;
  in_limit = lit≤ tt;
  weight_fits = record { sfits = lit< tt };
}

-- sent before the ask, it ends the session: only the hello may be written
abbrev pub FirstVersionEnds : Type 0
FirstVersionEnds = Serves 1 0 (texts_of (ShardFrame 1 (wide_link ∷ []) ∷ asked)) (text_of (HelloFrame 1 0) ++ texts_of [])
