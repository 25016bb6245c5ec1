-- The laws of the grammar.
use Rattle.std.specs.Prelude.{◌≡◌, List, ℕ, ◌++◌}
use Rattle.frames.specs.FrameValue.{FrameValue}
use Rattle.frames.specs.FrameText.{text_of}
use Rattle.frames.specs.Lawful.{IsLawful}
use Rattle.frames.specs.Refusals.{StreamRefused}
use Rattle.frames.specs.FrameStream.{IsOfStream}
use Rattle.frames.specs.declared.fault.FrameFault.{FrameFault}

-- No lawful frame's text is the text of another one or a prefix of it. Bytes that begin with a frame's text determine
-- that frame and the rest.
abbrev pub EachHasOneText : Type 0
EachHasOneText = (v w : FrameValue) (x y : List ℕ) → IsLawful v → IsLawful w → text_of v ++ x ≡ text_of w ++ y → (v ≡ w) × (x ≡ y)

-- bytes that begin with a lawful frame's text aren't rejected: a reader can only fail on a read or for lack of memory
abbrev pub IsNeverRefused : Type 0
IsNeverRefused = (v : FrameValue) (rest : List ℕ) (fault : FrameFault) → IsLawful v → IsOfStream fault → ¬ StreamRefused fault (text_of v ++ rest)
