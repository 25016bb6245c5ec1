-- Frames as values, whatever memory their lists are in.
use Rattle.std.specs.Prelude.{ℕ, List}
use Rattle.links.specs.declared.links.Link.{Link}
use Rattle.links.specs.AnswerValue.{AnswerValue}
use Rattle.frames.specs.declared.frame.Frame.{Frame}
use Rattle.frames.specs.declared.frame.Frame.TheVariants.{Hello, Shard, Ask, Answer, Fault}

-- one of five messages; a shard has two kinds of frame
pub data FrameValue : Type 0 where
  HelloFrame : (version worker : ℕ) → FrameValue
  ShardFrame : (number : ℕ) (links : List Link) → FrameValue
  AskFrame : (round shard : ℕ) (labels : List ℕ) → FrameValue
  AnswerFrame : (answer : AnswerValue) → FrameValue
  FaultFrame : (round shard code : ℕ) → FrameValue

-- the message that a frame in memory carries
abbrev pub value_of : {A : Type 0} → Frame A → FrameValue
value_of (Hello version worker) = HelloFrame version worker
value_of (Shard number links) = ShardFrame number links
value_of (Ask round shard labels) = AskFrame round shard labels
value_of (Answer answer) = AnswerFrame answer
value_of (Fault round shard code) = FaultFrame round shard code
