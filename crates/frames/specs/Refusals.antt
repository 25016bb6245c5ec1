-- Which errors a stream of bytes gives instead of a frame. Each applies only if no error before it in the list does.
use Rattle.std.specs.Prelude.{◌≡◌, ◌≢◌, ℕ, ◌+◌, ◌*◌, ◌<◌, ◌≤◌, ◌⊎◌, List, [], ◌++◌, length, slice_index, take, drop}
use Rattle.std.specs.List.{flat_map}
use Rattle.std.specs.Int.{w16, w32, from_be_bytes}
use Rattle.limits.specs.declared.TheConstants.{MAX_SHARDS, MAX_SHARD_LINKS, MAX_VERTICES}
use Rattle.frames.specs.FrameValue.{FrameValue}
use Rattle.links.specs.declared.links.Link.{Link}
use Rattle.frames.specs.FrameText.{u32_text, kind_of, body_of}
use Rattle.frames.specs.Lawful.{IsVersion, IsLawful}
use Rattle.frames.specs.declared.fault.FrameFault.{FrameFault}
use Rattle.frames.specs.declared.fault.FrameFault.TheVariants.{BadKind, BadLength, BadField, BadVersion, Ended, Torn, Device, Memory}

pub record IsKind (kind : ℕ) : Type 0 where
  pub from_one : 1 ≤ kind
  pub to_six : kind ≤ 6

-- `fixed` bytes, and after them at most `most` items of `item` bytes each
abbrev pub IsWithItems : (fixed item most len : ℕ) → Type 0
IsWithItems fixed item most len = (count : ℕ) × (count ≤ most) × (len ≡ fixed + item * count)

-- a body of this kind may have this length
pub record IsPossible (kind len : ℕ) : Type 0 where
  pub known : IsKind kind
  pub hello : kind ≡ 1 → len ≡ 6
  pub shard : kind ≡ 2 → IsWithItems 8 12 MAX_SHARD_LINKS len
  pub ask : kind ≡ 3 → IsWithItems 12 4 MAX_VERTICES len
  pub answer : kind ≡ 4 → IsWithItems 12 8 (2 * MAX_SHARD_LINKS) len
  pub fault : kind ≡ 5 → len ≡ 9
  pub wide : kind ≡ 6 → IsWithItems 8 16 MAX_SHARD_LINKS len

-- why a head is rejected
abbrev pub HeadRefused : FrameFault → ℕ → ℕ → Type 0
HeadRefused BadKind kind len = ¬ IsKind kind
HeadRefused BadLength kind len = IsKind kind × ¬ IsPossible kind len
HeadRefused _ kind len = ⊥

-- bytes that encode no link in this spelling
abbrev pub IsNoLink : (Link → List ℕ) → List ℕ → Type 0
IsNoLink spelled bytes = (l : Link) → spelled l ≢ bytes

-- bytes that encode no list of links in this spelling
abbrev pub AreNoLinks : (Link → List ℕ) → List ℕ → Type 0
AreNoLinks spelled bytes = (links : List Link) → flat_map spelled links ≢ bytes

-- a lawful frame of this kind, with this body
pub record IsFrameOf (v : FrameValue) (k : ℕ) (bytes : List ℕ) : Type 0 where
  pub lawful : IsLawful v
  pub kind : kind_of v ≡ k
  pub body : body_of v ≡ bytes

-- a hello whose version isn't lawful, whatever its worker
abbrev pub IsOtherVersion : ℕ → List ℕ → Type 0
IsOtherVersion kind body = (kind ≡ 1) × ¬ IsVersion (from_be_bytes w16 (take 2 body))

-- a shard's body whose number is lawful, and whose count is that of the links after it, of `size` bytes each
pub record ShardBegun (size : ℕ) (body : List ℕ) : Type 0 where
  pub number : ℕ
  pub count : ℕ
  pub links : List ℕ
  pub split : body ≡ u32_text number ++ (u32_text count ++ links)
  pub in_range : number < MAX_SHARDS
  pub counted : length links ≡ size * count

-- an ask's body whose shard is lawful, and whose count is that of the labels after it
pub record AskBegun (body : List ℕ) : Type 0 where
  pub round : ℕ
  pub shard : ℕ
  pub count : ℕ
  pub labels : List ℕ
  pub split : body ≡ u32_text round ++ (u32_text shard ++ (u32_text count ++ labels))
  pub in_range : shard < MAX_SHARDS
  pub counted : length labels ≡ 4 * count

-- an answer's body whose count is that of the offers after it
pub record AnswerBegun (body : List ℕ) : Type 0 where
  pub round : ℕ
  pub shard : ℕ
  pub count : ℕ
  pub offers : List ℕ
  pub split : body ≡ u32_text round ++ (u32_text shard ++ (u32_text count ++ offers))
  pub counted : length offers ≡ 8 * count

-- a body with lawful fields before a list, for which memory is allocated
abbrev pub IsListBegun : ℕ → List ℕ → Type 0
IsListBegun kind body =
    ((kind ≡ 2) × ShardBegun 12 body)
    ⊎ (((kind ≡ 6) × ShardBegun 16 body) ⊎ (((kind ≡ 3) × AskBegun body) ⊎ ((kind ≡ 4) × AnswerBegun body)))

-- why a body is rejected: for its version, or because no lawful frame has it; or memory for its list ran out
abbrev pub BodyRefused : FrameFault → ℕ → List ℕ → Type 0
BodyRefused BadVersion kind body = IsOtherVersion kind body
BodyRefused BadField kind body = ¬ IsOtherVersion kind body × ((v : FrameValue) → ¬ IsFrameOf v kind body)
BodyRefused Memory kind body = IsListBegun kind body
BodyRefused _ kind body = ⊥

-- the kind and the length in the first five bytes, and the body after them
abbrev pub kind_at : List ℕ → ℕ
kind_at stream = slice_index stream 0

abbrev pub length_at : List ℕ → ℕ
length_at stream = from_be_bytes w32 (take 4 (drop 1 stream))

abbrev pub body_at : List ℕ → List ℕ
body_at stream = take (length_at stream) (drop 5 stream)

-- the stream has a whole head; a head that isn't rejected; the whole body too
abbrev pub HasHead : List ℕ → Type 0
HasHead stream = 5 ≤ length stream

abbrev pub HasGoodHead : List ℕ → Type 0
HasGoodHead stream = HasHead stream × IsPossible (kind_at stream) (length_at stream)

abbrev pub HasBody : List ℕ → Type 0
HasBody stream = HasGoodHead stream × (5 + length_at stream ≤ length stream)

-- a head that isn't rejected, and less than its body
abbrev pub IsInBody : List ℕ → Type 0
IsInBody stream = HasGoodHead stream × (length stream < 5 + length_at stream)

-- the stream ends within the head, or within the body of a head that isn't rejected
abbrev pub IsTorn : List ℕ → Type 0
IsTorn stream = ((0 < length stream) × (length stream < 5)) ⊎ IsInBody stream

-- Why a stream, or what came of it, is rejected. `Device`: a read failed before a whole frame came. `Memory`: there was
-- no memory for the body or for its list.
abbrev pub StreamRefused : FrameFault → List ℕ → Type 0
StreamRefused Ended stream = stream ≡ []
StreamRefused Torn stream = IsTorn stream
StreamRefused BadKind stream = HasHead stream × HeadRefused BadKind (kind_at stream) (length_at stream)
StreamRefused BadLength stream = HasHead stream × HeadRefused BadLength (kind_at stream) (length_at stream)
StreamRefused BadVersion stream = HasBody stream × BodyRefused BadVersion (kind_at stream) (body_at stream)
StreamRefused BadField stream = HasBody stream × BodyRefused BadField (kind_at stream) (body_at stream)
StreamRefused Device stream = (stream ≡ []) ⊎ IsTorn stream
StreamRefused Memory stream = IsInBody stream ⊎ (HasBody stream × BodyRefused Memory (kind_at stream) (body_at stream))
