-- The two spellings of a shard's links, and lists of links as they arrive in one of them.
use Rattle.std.specs.Prelude.{◌≡◌, ℕ, ◌*◌, ⊤, if◌then◌else◌, IsTrue, List, ◌++◌, length, Option, Some, None, Vec}
use Rattle.std.specs.List.{flat_map}
use Rattle.links.specs.declared.links.Link.{Link}
use Rattle.frames.specs.FrameText.{are_narrow, link_text, wide_link_text}
use Rattle.frames.specs.Refusals.{AreNoLinks}
use Rattle.frames.specs.declared.spelling.Spelling.{Spelling}
use Rattle.frames.specs.declared.spelling.Spelling.TheVariants.{Narrow, Wide}

abbrev pub spelled_in : Spelling → Link → List ℕ
spelled_in Narrow l = link_text l
spelled_in Wide l = wide_link_text l

-- how many bytes a link takes
abbrev pub size_in : Spelling → ℕ
size_in Narrow = 12
size_in Wide = 16

-- the kind of a shard's frame in a spelling
abbrev pub kind_in : Spelling → ℕ
kind_in Narrow = 2
kind_in Wide = 6

abbrev pub spelling_of : List Link → Spelling
spelling_of links = if are_narrow links then Narrow else Wide

-- links that fit a spelling: those whose weights fit 32 bits, or any
abbrev pub FitIn : Spelling → List Link → Type 0
FitIn Narrow links = IsTrue (are_narrow links)
FitIn Wide links = ⊤

-- these bytes encode these links
pub record Spells (s : Spelling) (links : List Link) (bytes : List ℕ) : Type 0 where
  pub fit : FitIn s links
  pub bytes_are : flat_map (spelled_in s) links ≡ bytes

-- the links that these bytes encode were appended
abbrev pub Pushes : Spelling → List ℕ → List Link → List Link → Type 0
Pushes s bytes before after = (more : List Link) × (after ≡ before ++ more) × Spells s more bytes

-- the links that these bytes encode, or `None` if they encode no links
abbrev pub AreLinksIn : {A : Type 0} → Spelling → List ℕ → Option (Vec Link A) → Type 0
AreLinksIn s bytes (Some links) = Spells s links.items bytes
AreLinksIn s bytes None = AreNoLinks (spelled_in s) bytes

-- bytes of a whole number of links came, and these are the links, or `None` if the bytes encode no links
pub record HeardLinks {A : Type 0} (s : Spelling) (bytes : List ℕ) (links : Option (Vec Link A)) : Type 0 where
  pub count : ℕ
  pub counted : length bytes ≡ size_in s * count
  pub are : AreLinksIn s bytes links
