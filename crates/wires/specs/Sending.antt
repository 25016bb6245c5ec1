-- A shard that is sent in pieces.
use Rattle.std.specs.Prelude.{◌≡◌, ◌+◌, ◌*◌, ◌≤◌, ℕ, min, List, ◌++◌, length, Vec, vec_len, vec_capacity}
use Rattle.std.specs.List.{flat_map}
use Rattle.links.specs.declared.links.Link.{Link}
use Rattle.frames.specs.declared.encoding.TheConstants.{SHARD_HEAD}
use Rattle.frames.specs.declared.spelling.Spelling.{Spelling}
use Rattle.frames.specs.FrameValue.{ShardFrame}
use Rattle.frames.specs.FrameText.{text_of}
use Rattle.frames.specs.Spellings.{spelled_in, size_in, FitIn}
use Rattle.wires.specs.Lines.{LineState}
use Rattle.wires.specs.Causes.{Transmits}

-- Links that fit this spelling, and a text no longer than a shard's head. Its capacity is 64 KiB, or that of a head and
-- all links if that is less.
pub record AwaitsLinks {A : Type 0} (s : Spelling) (links : List Link) (text : Vec ℕ A) : Type 0 where
  pub fit : FitIn s links
  pub begun : vec_len text ≤ SHARD_HEAD
  pub room : min 65536 (SHARD_HEAD + size_in s * length links) ≤ vec_capacity text

-- the text is what precedes these links in the frame of their shard, and has the capacity for them
pub record BeginsShard {A : Type 0} (s : Spelling) (number : ℕ) (links : List Link) (text : Vec ℕ A) : Type 0 where
  pub begun : text.items ++ flat_map (spelled_in s) links ≡ text_of (ShardFrame number links)
  pub awaits : AwaitsLinks s links text

-- a text and the first of these links after it were put, and the rest of them is left
pub record PutsSome (s : Spelling) (text : List ℕ) (links rest : List Link) (before after : LineState) : Type 0 where
  pub first : List Link
  pub parted : links ≡ first ++ rest
  pub went : Transmits (text ++ flat_map (spelled_in s) first) before after
