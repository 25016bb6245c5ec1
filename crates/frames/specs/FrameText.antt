-- The grammar: the bytes of each frame. Whole numbers are big-endian, and there is nothing between fields.
use Rattle.std.specs.Prelude.{ℕ, ℤ, pos, neg_ℤ, ◌^◌, int_le, int_lt, Bool, true, ◌&&◌, if◌then◌else◌, List, [], ◌∷◌, ◌++◌, length}
use Rattle.std.specs.List.{flat_map}
use Rattle.std.specs.Int.{w16, w32, w64, to_be_bytes, cast_unsigned}
use Rattle.links.specs.declared.links.Link.{Link}
use Rattle.links.specs.Offers.{Offer}
use Rattle.frames.specs.FrameValue.{FrameValue, HelloFrame, ShardFrame, AskFrame, AnswerFrame, FaultFrame}

unfoldable pub u16_text : ℕ → List ℕ
u16_text n = to_be_bytes w16 n

unfoldable pub u32_text : ℕ → List ℕ
u32_text n = to_be_bytes w32 n

-- a signed number of four bytes, in two's complement
abbrev pub i32_text : ℤ → List ℕ
i32_text z = u32_text (cast_unsigned w32 z)

-- a signed number of eight bytes, in two's complement
unfoldable pub i64_text : ℤ → List ℕ
i64_text z = to_be_bytes w64 (cast_unsigned w64 z)

-- the weight fits 32 bits
abbrev pub is_narrow : Link → Bool
is_narrow l = int_le (neg_ℤ (pos (2 ^ 31))) l.weight && int_lt l.weight (pos (2 ^ 31))

abbrev pub are_narrow : List Link → Bool
are_narrow [] = true
are_narrow (l ∷ links) = is_narrow l && are_narrow links

-- a link: its endpoints, the lower one first, and its weight, which fits 32 bits
abbrev pub link_text : Link → List ℕ
link_text l = u32_text l.low ++ (u32_text l.high ++ i32_text l.weight)

-- a link: its endpoints, the lower one first, and its weight of 64 bits
abbrev pub wide_link_text : Link → List ℕ
wide_link_text l = u32_text l.low ++ (u32_text l.high ++ i64_text l.weight)

-- links, one after the other: with weights of 32 bits if all of them fit, and otherwise with weights of 64 bits
abbrev pub links_text : List Link → List ℕ
links_text links = if are_narrow links then flat_map link_text links else flat_map wide_link_text links

-- an offer: the component, and the index of the link
abbrev pub offer_text : Offer → List ℕ
offer_text o = u32_text o.0 ++ u32_text o.1

-- the byte that names the kind: a shard has kind 2 if all its weights fit 32 bits, and otherwise kind 6
abbrev pub kind_of : FrameValue → ℕ
kind_of (HelloFrame version worker) = 1
kind_of (ShardFrame number links) = if are_narrow links then 2 else 6
kind_of (AskFrame round shard labels) = 3
kind_of (AnswerFrame answer) = 4
kind_of (FaultFrame round shard code) = 5

-- the first version that has such a frame; a hello is of the version that it names
abbrev pub version_of : FrameValue → ℕ
version_of (HelloFrame version worker) = version
version_of (ShardFrame number links) = if are_narrow links then 1 else 2
version_of v = 1

-- the fields, in order; the length of a list precedes it
abbrev pub body_of : FrameValue → List ℕ
body_of (HelloFrame version worker) = u16_text version ++ u32_text worker
body_of (ShardFrame number links) =
    u32_text number ++ (u32_text (length links) ++ links_text links)
body_of (AskFrame round shard labels) =
    u32_text round ++ (u32_text shard ++ (u32_text (length labels) ++ flat_map u32_text labels))
body_of (AnswerFrame answer) =
    u32_text answer.round ++ (u32_text answer.shard ++ (u32_text (length answer.offers) ++ flat_map offer_text answer.offers))
body_of (FaultFrame round shard code) = u32_text round ++ (u32_text shard ++ code ∷ [])

-- the kind, the length of the body, and the body
abbrev pub text_of : FrameValue → List ℕ
text_of v = kind_of v ∷ (u32_text (length (body_of v)) ++ body_of v)
