-- A shard whose links arrive in pieces.
use Rattle.std.proofs.Common.{◌≡◌, ◌≢◌, ℕ, ◌+◌, ◌-◌, ◌*◌, ◌/◌, ◌%◌, ◌<◌, ◌≤◌, List, ◌++◌, length, Option, Some, None, Vec, sym, ap, subst, ◌∙◌, arith}
use Rattle.std.proofs.lemmas.List.{length-append}
use Rattle.byte_streams.specs.Streams.{SourceState, Gave}
use Rattle.limits.specs.declared.TheConstants.{MAX_SHARDS, MAX_SHARD_LINKS}
use Rattle.links.specs.declared.links.Link.{Link}
use Rattle.frames.specs.FrameValue.{FrameValue, ShardFrame}
use Rattle.frames.specs.FrameText.{u32_text}
use Rattle.frames.specs.Lawful.{IsU32}
use Rattle.frames.specs.Refusals.{IsPossible, AreNoLinks, IsListBegun}
use Rattle.frames.specs.ReadFault.{IsCutShort}
use Rattle.frames.specs.NextFrame.{BodyCame, IsBodyRefused, WantsLate, IsStopped}
use Rattle.frames.specs.Pieces.{BytesCame}
use Rattle.frames.specs.Spellings.{spelled_in, size_in, kind_in, spelling_of, Spells, Pushes, AreLinksIn, HeardLinks}
use Rattle.frames.specs.declared.spelling.Spelling.{Spelling}
use Rattle.frames.specs.declared.spelling.Spelling.TheVariants.{Narrow, Wide}
use Rattle.frames.specs.declared.fault.FrameFault.{FrameFault}
use Rattle.frames.specs.declared.fault.FrameFault.TheVariants.{BadField}
use Rattle.frames.proofs.Pieces.{list_came, list_refused, list_cut, list_stopped, list_late}
use Rattle.frames.proofs.Texts.{u32_length}
use Rattle.frames.proofs.Spelled.{spells_more, none_before, none_behind_them}
use Rattle.frames.proofs.Decoded.{shard_refused, shard_begun, shard_unlinked, shard_of_another_kind, shard_found}

-- ---- the length in the head

-- a head of this kind says how many links follow the eight bytes of fields
pub record SaysLinks (s : Spelling) (len most : ℕ) : Type 0 where
  pub fields : 8 ≤ len
  pub few : most ≤ MAX_SHARD_LINKS
  pub length_is : len ≡ 8 + size_in s * most

pub says_links : (s : Spelling) (kind len most : ℕ) → kind_in s ≡ kind → IsPossible kind len → most ≡ (len - 8) / size_in s → SaysLinks s len most
says_links a1 a2 a3 a4 a5 a6 a7 = search arith

module _ (s : Spelling) (kind len most : ℕ) (kind_is : kind_in s ≡ kind) (says : SaysLinks s len most) (x y : SourceState) where
  pub came_by_head : (v : FrameValue) → BodyCame v (kind_in s) (8 + size_in s * most) x y → BodyCame v kind len x y
  came_by_head v came = subst (λ (k : ℕ). BodyCame v k len x y) kind_is (subst (λ (m : ℕ). BodyCame v (kind_in s) m x y) (sym says.length_is) came)

  pub refused_by_head : (fault : FrameFault) → IsBodyRefused fault (kind_in s) (8 + size_in s * most) x y → IsBodyRefused fault kind len x y
  refused_by_head fault refused = subst (λ (k : ℕ). IsBodyRefused fault k len x y) kind_is (subst (λ (m : ℕ). IsBodyRefused fault (kind_in s) m x y) (sym says.length_is) refused)

  pub late_by_head : (fault : FrameFault) → WantsLate fault (kind_in s) (8 + size_in s * most) x → WantsLate fault kind len x
  late_by_head fault late = subst (λ (k : ℕ). WantsLate fault k len x) kind_is (subst (λ (m : ℕ). WantsLate fault (kind_in s) m x) (sym says.length_is) late)

-- ---- links are taken

mul-add : (s : Spelling) (n k : ℕ) → size_in s * (n + k) ≡ size_in s * n + size_in s * k
mul-add a1 a2 a3 = search arith

whole_pieces : (s : Spelling) (len : ℕ) → len % size_in s ≡ 0 → len ≡ size_in s * (len / size_in s)
whole_pieces a1 a2 a3 = search arith

module _ {A : Type 0} (s : Spelling) (bytes piece : List ℕ) (whole : length piece % size_in s ≡ 0) where
  more : (before after : Option (Vec Link A)) (heard : HeardLinks s bytes before) → AreLinksIn s (bytes ++ piece) after → HeardLinks s (bytes ++ piece) after
  more before after heard are = record {
    count = heard.count + length piece / size_in s;
    counted = omega (arith, length-append bytes piece, heard.counted, whole_pieces s (length piece) whole, mul-add s heard.count (length piece / size_in s));
    are = are;
  }

  -- no link is taken after bytes that aren't a link's
  pub hears_none : HeardLinks {A = A} s bytes None → HeardLinks {A = A} s (bytes ++ piece) None
  hears_none heard = more None None heard (none_before s bytes piece heard.count heard.counted heard.are)

  pub hears_refused : (before : Vec Link A) → AreNoLinks (spelled_in s) piece → HeardLinks s bytes (Some before) → HeardLinks {A = A} s (bytes ++ piece) None
  hears_refused before none heard = more (Some before) None heard (none_behind_them s bytes piece heard.count heard.counted none)

  pub hears_links : (before after : Vec Link A) → Pushes s piece before.items after.items → HeardLinks s bytes (Some before) → HeardLinks s (bytes ++ piece) (Some after)
  hears_links before after (more_links, is, spelled) heard =
      more (Some before) (Some after) heard (subst (λ (ls : List Link). Spells s ls (bytes ++ piece)) (sym is) (spells_more s before.items more_links bytes piece heard.are spelled))

-- ---- the eight bytes before the links

module _ (s : Spelling) (n c k : ℕ) (x y z : SourceState) (came : Gave 0 0 (u32_text n ++ u32_text c) x y) where
  long : length (u32_text n ++ u32_text c) + size_in s * k ≡ 8 + size_in s * k
  long = omega (arith, length-append (u32_text n) (u32_text c), u32_length n, u32_length c)

  -- less than the links came
  pub shard_unpassed : (fault : FrameFault) → IsCutShort fault (size_in s * k) y z → IsBodyRefused fault (kind_in s) (8 + size_in s * k) x z
  shard_unpassed fault cut = list_cut (kind_in s) (8 + size_in s * k) (size_in s * k) (u32_text n ++ u32_text c) long x y z came fault cut

  -- fields that no shard has
  pub shard_unlawful : IsU32 n → IsU32 c → BytesCame (size_in s * k) y z → (n < MAX_SHARDS → c ≡ k → ⊥) → IsBodyRefused BadField (kind_in s) (8 + size_in s * k) x z
  unfolding u32_text
  shard_unlawful wide_n wide_c behind never = search (arith, list_refused, long, shard_refused)

  module _ (low : n < MAX_SHARDS) (counted : c ≡ k) where
    begun : (links : List ℕ) → length links ≡ size_in s * k → IsListBegun (kind_in s) ((u32_text n ++ u32_text c) ++ links)
    unfolding u32_text
    begun links count = shard_begun s n c links low (count ∙ ap (λ (m : ℕ). size_in s * m) (sym counted))

    -- less than all links came, or memory ran out
    pub shard_stopped : (fault : FrameFault) → IsStopped fault (size_in s * k) y z → IsBodyRefused fault (kind_in s) (8 + size_in s * k) x z
    shard_stopped fault stopped = list_stopped (kind_in s) (8 + size_in s * k) (size_in s * k) (u32_text n ++ u32_text c) long x y z came fault stopped begun

    pub shard_late : (fault : FrameFault) → WantsLate fault (kind_in s) (8 + size_in s * k) x
    shard_late fault = list_late (kind_in s) (8 + size_in s * k) (size_in s * k) (u32_text n ++ u32_text c) long x y z came fault begun

    module _ {A : Type 0} (links : Option (Vec Link A)) (bytes : List ℕ) (long_enough : length bytes ≡ size_in s * k) (behind : Gave 0 0 bytes y z) (heard : HeardLinks s bytes links) where
      pub shard_came : k ≤ MAX_SHARD_LINKS → (list : Vec Link A) (v : FrameValue) → links ≡ Some list → (v ≡ ShardFrame n list.items) × (spelling_of list.items ≡ s)
          → BodyCame v (kind_in s) (8 + size_in s * k) x z
      unfolding u32_text
      shard_came few list v is (same, spelling) =
          let are : AreLinksIn s bytes (Some list) = subst (AreLinksIn s bytes) is heard.are in
          subst (λ (w : FrameValue). BodyCame w (kind_in s) (8 + size_in s * k) x z) (sym same)
          (list_came (kind_in s) (8 + size_in s * k) (size_in s * k) (u32_text n ++ u32_text c) long x y z came (ShardFrame n list.items) bytes long_enough behind
          (shard_found s n c bytes list.items low (omega (arith, counted, few)) (long_enough ∙ ap (λ (m : ℕ). size_in s * m) (sym counted)) are.bytes_are spelling))

      module _ (wide_n : IsU32 n) (wide_c : IsU32 c) where
        -- links came in the other spelling
        pub no_shard_came : (list : Vec Link A) (fault : FrameFault) → links ≡ Some list → (fault ≡ BadField) × (spelling_of list.items ≢ s) → IsBodyRefused fault (kind_in s) (8 + size_in s * k) x z
        unfolding u32_text
        no_shard_came list fault is (bad, other) =
            let are : AreLinksIn s bytes (Some list) = subst (AreLinksIn s bytes) is heard.are in
            subst (λ (f : FrameFault). IsBodyRefused f (kind_in s) (8 + size_in s * k) x z) (sym bad)
            (list_refused (kind_in s) (8 + size_in s * k) (size_in s * k) (u32_text n ++ u32_text c) long x y z came BadField bytes long_enough behind
            (shard_of_another_kind s n c bytes list.items wide_n wide_c are other))

        pub no_links_came : links ≡ None → IsBodyRefused BadField (kind_in s) (8 + size_in s * k) x z
        unfolding u32_text
        no_links_came is =
            list_refused (kind_in s) (8 + size_in s * k) (size_in s * k) (u32_text n ++ u32_text c) long x y z came BadField bytes long_enough behind
            (shard_unlinked s n c bytes wide_n wide_c (subst (AreLinksIn s bytes) is heard.are))
