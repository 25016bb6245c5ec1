-- A frame after an ask, whose labels may be sent again.
use Rattle.std.specs.Prelude.{◌≡◌, ◌≢◌, ℕ, ◌+◌, ◌/◌, ◌<◌, ◌≤◌, ◌⊎◌, List, ◌++◌, length, take, All, Option, Some, None, IfSome, Vec}
use Rattle.std.specs.List.{flat_map}
use Rattle.byte_streams.specs.Streams.{SourceState, Gave}
use Rattle.links.specs.Labels.{label_of, IsLabelled, AreLabels, Coarsens}
use Rattle.frames.specs.FrameValue.{FrameValue, AskFrame, value_of}
use Rattle.frames.specs.FrameText.{u32_text}
use Rattle.frames.specs.Lawful.{IsU32}
use Rattle.frames.specs.Refusals.{IsFrameOf, BodyRefused, IsListBegun}
use Rattle.frames.specs.ReadFault.{failures_of, ends_of, CutsShort, IsCutShort}
use Rattle.frames.specs.declared.fault.FrameFault.{FrameFault}
use Rattle.frames.specs.declared.fault.FrameFault.TheVariants.{Memory}
use Rattle.frames.specs.declared.next_frame.NextFrame.{NextFrame}
use Rattle.frames.specs.declared.next_frame.NextFrame.TheVariants.{AskAgain, AskCoarser, Other}

-- the message of the next frame, after an ask under these labels
abbrev pub next_value : {A : Type 0} → List ℕ → NextFrame A → FrameValue
next_value last (AskAgain round shard) = AskFrame round shard last
next_value last (AskCoarser round shard labels) = AskFrame round shard labels
next_value last (Other frame) = value_of frame

-- The labels of an `AskCoarser` differ from those of the last ask and coarsen them. The labels of an ask that comes as
-- a whole frame don't coarsen them, so an ask under the same labels is always an `AskAgain`.
abbrev pub SaysCoarser : {A : Type 0} → List ℕ → NextFrame A → Type 0
SaysCoarser last (AskAgain round shard) = Unit {0}
SaysCoarser last (AskCoarser round shard labels) = Coarsens labels last × (labels ≢ last)
SaysCoarser last (Other frame) = (r s : ℕ) (labels : List ℕ) → value_of frame ≡ AskFrame r s labels → ¬ Coarsens labels last

-- up to this vertex, the numbers are labels, and they coarsen the labels of the last ask
pub record AreCoarserUpTo (last numbers : List ℕ) (to : ℕ) : Type 0 where
  pub labelled : (v : ℕ) → 1 ≤ v → v ≤ to → IsLabelled numbers v
  pub coarser : (v : ℕ) → 1 ≤ v → v ≤ to → label_of numbers v ≡ label_of numbers (label_of last v)

-- the numbers of an ask: the same as these, or others that were stored
abbrev pub numbers_of_ask : {A : Type 0} → List ℕ → Option (Vec ℕ A) → List ℕ
numbers_of_ask same None = same
numbers_of_ask same (Some numbers) = numbers.items

-- the next frame asks for the shard under these numbers, after an ask under the last labels, and they are labels
pub record IsAskUnder {A : Type 0} (last : List ℕ) (round shard : ℕ) (numbers : List ℕ) (next : NextFrame A) : Type 0 where
  pub value : next_value last next ≡ AskFrame round shard numbers
  pub labels : AreLabels numbers
  pub coarser : SaysCoarser last next

-- if numbers were stored, they differ from as many of the last ones
abbrev pub AreOthers : {A : Type 0} → List ℕ → ℕ → Option (Vec ℕ A) → Type 0
AreOthers last came numbers = IfSome numbers (λ list. list.items ≢ take came last)

-- after the numbers that came so far, those that these bytes encode were taken
pub record HearsMore {A : Type 0} (last : List ℕ) (came : ℕ) (piece : List ℕ) (before after : Option (Vec ℕ A)) : Type 0 where
  pub more : List ℕ
  pub is : numbers_of_ask (take (came + length piece / 4) last) after ≡ numbers_of_ask (take came last) before ++ more
  pub spelled : flat_map u32_text more ≡ piece

-- if the numbers that came so far fit 32 bits, they still do after `count` more
abbrev pub StayU32 : {A : Type 0} → List ℕ → ℕ → ℕ → Option (Vec ℕ A) → Option (Vec ℕ A) → Type 0
StayU32 last came count before after =
    All IsU32 (numbers_of_ask (take came last) before) → All IsU32 (numbers_of_ask (take (came + count) last) after)

-- a body of this many bytes came, and it is the frame's
pub record BodyCame (v : FrameValue) (kind len : ℕ) (before after : SourceState) : Type 0 where
  pub body : List ℕ
  pub counted : length body ≡ len
  pub gave : Gave 0 0 body before after
  pub is : IsFrameOf v kind body

-- a body of this many bytes came, and it is rejected
pub record IsWholeRefused (fault : FrameFault) (kind len : ℕ) (before after : SourceState) : Type 0 where
  pub body : List ℕ
  pub counted : length body ≡ len
  pub gave : Gave 0 0 body before after
  pub refused : BodyRefused fault kind body

-- after a head, less than its body came, or a body that is rejected
abbrev pub IsBodyRefused : FrameFault → ℕ → ℕ → SourceState → SourceState → Type 0
IsBodyRefused fault kind len before after = IsCutShort fault len before after ⊎ IsWholeRefused fault kind len before after

-- memory was requested only after lawful fields, if the bytes to come are known and are a whole body
abbrev pub WantsLate : FrameFault → ℕ → ℕ → SourceState → Type 0
WantsLate fault kind len before = fault ≡ Memory → (body : List ℕ) → before.left ≡ Some body → length body ≡ len → IsListBegun kind body

-- no more than `len` bytes came, and fewer unless memory ran out
pub record IsStopped (fault : FrameFault) (len : ℕ) (before after : SourceState) : Type 0 where
  pub bytes : List ℕ
  pub gave : Gave (failures_of fault) (ends_of fault) bytes before after
  pub within : length bytes ≤ len
  pub short : (fault ≡ Memory) ⊎ (length bytes < len)
  pub cause : CutsShort fault
