-- The frames of a stream.
use Rattle.std.specs.Prelude.{◌≡◌, ◌≢◌, ℕ, ⊤, List, ◌++◌}
use Rattle.std.specs.List.{flat_map, AllByRecursion}
use Rattle.frames.specs.FrameValue.{FrameValue}
use Rattle.frames.specs.FrameText.{text_of}
use Rattle.frames.specs.Lawful.{IsLawful}
use Rattle.frames.specs.declared.fault.FrameFault.{FrameFault}
use Rattle.frames.specs.declared.fault.FrameFault.TheVariants.{Device, Memory}

-- the texts of frames, one after the other
abbrev pub texts_of : List FrameValue → List ℕ
texts_of frames = flat_map text_of frames

abbrev pub AreLawful : List FrameValue → Type 0
AreLawful frames = AllByRecursion IsLawful frames

-- no lawful frame's text is a prefix of these bytes
abbrev pub BeginsNone : List ℕ → Type 0
BeginsNone bytes = (v : FrameValue) (more : List ℕ) → IsLawful v → bytes ≢ text_of v ++ more

-- the lawful frames whose joined texts are the longest such prefix of the stream
pub record AreFramesOf (stream : List ℕ) (frames : List FrameValue) : Type 0 where
  pub lawful : AreLawful frames
  pub rest : List ℕ
  pub split : stream ≡ texts_of frames ++ rest
  pub no_more : BeginsNone rest

-- an error that depends on the stream alone, and not on a failed read or on memory
abbrev pub IsOfStream : FrameFault → Type 0
IsOfStream Device = ⊥
IsOfStream Memory = ⊥
IsOfStream _ = ⊤

-- The frames of a prefix of a stream are a prefix of the stream's frames.
abbrev pub PrefixHasPrefixFrames : Type 0
PrefixHasPrefixFrames = (prefix rest : List ℕ) (all : List FrameValue) → AreFramesOf (prefix ++ rest) all
    → (some : List FrameValue) × (more : List FrameValue) × (all ≡ some ++ more) × AreFramesOf prefix some

abbrev pub FramesAreOne : Type 0
FramesAreOne = (stream : List ℕ) (fs gs : List FrameValue) → AreFramesOf stream fs → AreFramesOf stream gs → gs ≡ fs
