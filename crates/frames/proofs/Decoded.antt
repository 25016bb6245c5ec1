-- What the fields of a body say about the frames that have it.
use Rattle.std.proofs.Common.{◌≡◌, ℕ, ◌*◌, ◌<◌, ◌≤◌, ◌≢◌, List, [], ◌∷◌, ◌++◌, length, take, get_or, All, refl, sym, ap, subst, ◌∙◌, append-nil, arith, inl, inr}
use Rattle.std.specs.Int.{w16, from_be_bytes}
use Rattle.std.specs.List.{flat_map, AllByRecursion}
use Rattle.std.proofs.lemmas.List.{length-append, nil_from_length}
use Rattle.std.proofs.lemmas.List.Elements.{recursion_from_All}
use Rattle.limits.specs.declared.TheConstants.{MAX_SHARDS, MAX_SHARD_LINKS, MAX_WORKERS}
use Rattle.links.specs.declared.links.Link.{Link}
use Rattle.links.specs.Labels.{AreLabels}
use Rattle.links.specs.Offers.{Offer, AreOffers}
use Rattle.frames.specs.FrameValue.{FrameValue, HelloFrame, ShardFrame, AskFrame, AnswerFrame, FaultFrame}
use Rattle.frames.specs.FrameText.{u16_text, u32_text, links_text, offer_text}
use Rattle.frames.specs.Lawful.{IsU32, IsVersion, IsShard}
use Rattle.frames.specs.Refusals.{IsOtherVersion, IsFrameOf, ShardBegun, IsListBegun, BodyRefused, AreNoLinks}
use Rattle.frames.specs.Spellings.{spelled_in, size_in, kind_in, spelling_of, Spells}
use Rattle.frames.specs.declared.spelling.Spelling.{Spelling}
use Rattle.frames.specs.declared.spelling.Spelling.TheVariants.{Narrow, Wide}
use Rattle.frames.specs.declared.fault.FrameFault.TheVariants.{BadField}
use Rattle.frames.proofs.Texts.{u16_length, u32_length, u16_prefix, u32_prefix, offer_length, items_length, items_same, offer_prefix, FitsOffer}
use Rattle.frames.proofs.OneText.{two_prefix, labels_fit, shard_kind}
use Rattle.frames.proofs.Spelled.{length_in, counted_in, fit_of, text_in, spelling_by_kind, kind_by_spelling, spelled_same}

-- ---- a hello

pub hello_version : (version : ℕ) (body : List ℕ) → version ≡ from_be_bytes w16 (take 2 body) → IsVersion version → IsOtherVersion 1 body → ⊥
hello_version version body value one other = other.1 (subst IsVersion value one)

hello_unlike : (v : FrameValue) (version worker : ℕ) (body rest behind : List ℕ) → IsU32 worker → MAX_WORKERS ≤ worker → IsVersion version
    → body ≡ u16_text version ++ rest → rest ≡ u32_text worker ++ behind → length body ≡ 6 → IsFrameOf v 1 body → ⊥
hello_unlike a1 a2 a3 a4 a5 a6 a7 a8 a9 a10 a11 a12 a13 = search (arith, nil_from_length, length-append, u16_length, u32_length, u16_prefix, u32_prefix, append-nil, shard_kind)

pub hello_refused : (version worker : ℕ) (body rest behind : List ℕ) → IsU32 worker → MAX_WORKERS ≤ worker → IsVersion version → version ≡ from_be_bytes w16 (take 2 body)
    → body ≡ u16_text version ++ rest → rest ≡ u32_text worker ++ behind → length body ≡ 6 → BodyRefused BadField 1 body
hello_refused version worker body rest behind wide high one value first second len = search (arith, hello_version, hello_unlike)

pub hello_found : (version worker : ℕ) (body rest behind : List ℕ) → worker < MAX_WORKERS → IsVersion version
    → body ≡ u16_text version ++ rest → rest ≡ u32_text worker ++ behind → length body ≡ 6 → IsFrameOf (HelloFrame version worker) 1 body
hello_found version worker body rest behind low one first second len = search (arith, nil_from_length, length-append, u16_length, u32_length, append-nil)

-- ---- a shard, in either spelling

no_hello : (s : Spelling) (body : List ℕ) → IsOtherVersion (kind_in s) body → ⊥
no_hello a1 a2 a3 = search arith

no_shard : (s : Spelling) (kind : ℕ) → kind ≤ 5 → kind ≢ 2 → kind ≡ kind_in s → ⊥
no_shard a1 a2 a3 a4 a5 = search arith

list_begun : (s : Spelling) (body : List ℕ) → ShardBegun (size_in s) body → IsListBegun (kind_in s) body
list_begun a1 a2 a3 = search arith

module _ (s : Spelling) (n c : ℕ) (links : List ℕ) where
  shard_parts : (v : FrameValue) → IsU32 n → IsU32 c → IsFrameOf v (kind_in s) (u32_text n ++ (u32_text c ++ links))
      → (ls : List Link) × IsShard n ls × (length ls ≡ c) × (spelling_of ls ≡ s) × (flat_map (spelled_in s) ls ≡ links)
  shard_parts a1 a2 a3 a4 = search (arith, two_prefix, spelling_by_kind, text_in, no_shard)

  pub shard_refused : (k : ℕ) → length links ≡ size_in s * k → IsU32 n → IsU32 c → (n < MAX_SHARDS → c ≡ k → ⊥) → BodyRefused BadField (kind_in s) (u32_text n ++ (u32_text c ++ links))
  shard_refused k long wide wide' never = (
    no_hello s (u32_text n ++ (u32_text c ++ links)),
    λ v is.
        let (ls, lawful, count, spelling, same) = shard_parts v wide wide' is in
        let links-are : length links ≡ size_in s * length ls = sym (ap length same) ∙ length_in s ls in
        never lawful.number (sym count ∙ sym (counted_in s (length links) (length ls) links-are) ∙ counted_in s (length links) k long),
  )

  -- bytes that encode no links
  pub shard_unlinked : IsU32 n → IsU32 c → AreNoLinks (spelled_in s) links → BodyRefused BadField (kind_in s) (u32_text n ++ (u32_text c ++ links))
  shard_unlinked wide wide' none = search (arith, no_hello, shard_parts)

  -- links that belong in the other spelling
  pub shard_of_another_kind : (ls : List Link) → IsU32 n → IsU32 c → Spells s ls links → spelling_of ls ≢ s → BodyRefused BadField (kind_in s) (u32_text n ++ (u32_text c ++ links))
  shard_of_another_kind ls wide wide' spelled other = (
    no_hello s (u32_text n ++ (u32_text c ++ links)),
    λ v is.
        let (ls', lawful, count, spelling, same) = shard_parts v wide wide' is in
        other (ap spelling_of (spelled_same s ls ls' spelled.fit (fit_of s ls' spelling) (spelled.bytes_are ∙ sym same)) ∙ spelling),
  )

  pub shard_begun : n < MAX_SHARDS → length links ≡ size_in s * c → IsListBegun (kind_in s) (u32_text n ++ (u32_text c ++ links))
  shard_begun low long = list_begun s (u32_text n ++ (u32_text c ++ links)) (record { number = n; count = c; links = links; split = refl; in_range = low; counted = long })

  pub shard_found : (ls : List Link) → n < MAX_SHARDS → c ≤ MAX_SHARD_LINKS → length links ≡ size_in s * c → flat_map (spelled_in s) ls ≡ links → spelling_of ls ≡ s
      → IsFrameOf (ShardFrame n ls) (kind_in s) (u32_text n ++ (u32_text c ++ links))
  shard_found ls low few long same spelling = search (arith, length_in, counted_in, kind_by_spelling, text_in)

-- ---- an ask

module _ (r s c : ℕ) (labels : List ℕ) where
  ask_parts : (v : FrameValue) → IsU32 r → IsU32 s → IsU32 c → IsFrameOf v 3 (u32_text r ++ (u32_text s ++ (u32_text c ++ labels)))
      → (ls : List ℕ) × AreLabels ls × (length ls ≡ c) × (s < MAX_SHARDS) × (flat_map u32_text ls ≡ labels)
  ask_parts a1 a2 a3 a4 a5 = search (arith, two_prefix, u32_prefix, shard_kind)

  pub ask_begun : s < MAX_SHARDS → length labels ≡ 4 * c → IsListBegun 3 (u32_text r ++ (u32_text s ++ (u32_text c ++ labels)))
  ask_begun low long = inr (inr (inl (refl, record { round = r; shard = s; count = c; labels = labels; split = refl; in_range = low; counted = long })))

  pub ask_refused : IsU32 r → IsU32 s → IsU32 c → (s < MAX_SHARDS → length labels ≡ 4 * c → ⊥) → BodyRefused BadField 3 (u32_text r ++ (u32_text s ++ (u32_text c ++ labels)))
  ask_refused wide_r wide_s wide_c never = search (arith, ask_parts, items_length, u32_length)

  pub ask_unlabelled : (ns : List ℕ) → IsU32 r → IsU32 s → IsU32 c → flat_map u32_text ns ≡ labels → All IsU32 ns → (AreLabels ns → ⊥)
      → BodyRefused BadField 3 (u32_text r ++ (u32_text s ++ (u32_text c ++ labels)))
  ask_unlabelled ns wide_r wide_s wide_c spelled fits never = (
    λ other. omega (arith, other.0),
    λ v is.
        let (ls, lawful, count, low, same) = ask_parts v wide_r wide_s wide_c is in
        let one : ls ≡ ns = items_same u32_text 4 IsU32 (omega arith) u32_length u32_prefix ls ns (labels_fit ls lawful) (recursion_from_All _ _ fits) (same ∙ sym spelled) in
        never (subst AreLabels one lawful),
  )

  pub ask_found : (ls : List ℕ) → IsU32 r → s < MAX_SHARDS → length ls ≡ c → flat_map u32_text ls ≡ labels → AreLabels ls
      → IsFrameOf (AskFrame r s ls) 3 (u32_text r ++ (u32_text s ++ (u32_text c ++ labels)))
  ask_found ls wide low total same are = search arith

-- ---- an answer

module _ (r s c : ℕ) (offers : List ℕ) where
  answer_parts : (v : FrameValue) → IsU32 r → IsU32 s → IsU32 c → IsFrameOf v 4 (u32_text r ++ (u32_text s ++ (u32_text c ++ offers)))
      → (os : List Offer) × AreOffers os × AllByRecursion FitsOffer os × (length os ≡ c) × (flat_map offer_text os ≡ offers)
  answer_parts a1 a2 a3 a4 a5 = search (arith, two_prefix, u32_prefix, recursion_from_All, shard_kind)

  pub answer_begun : length offers ≡ 8 * c → IsListBegun 4 (u32_text r ++ (u32_text s ++ (u32_text c ++ offers)))
  answer_begun long = inr (inr (inr (refl, record { round = r; shard = s; count = c; offers = offers; split = refl; counted = long })))

  pub answer_refused : IsU32 r → IsU32 s → IsU32 c → (length offers ≡ 8 * c → ⊥) → BodyRefused BadField 4 (u32_text r ++ (u32_text s ++ (u32_text c ++ offers)))
  answer_refused wide_r wide_s wide_c never = search (arith, answer_parts, items_length, offer_length)

  pub answer_unsorted : (ps : List Offer) → IsU32 r → IsU32 s → IsU32 c → flat_map offer_text ps ≡ offers → All FitsOffer ps → (AreOffers ps → ⊥)
      → BodyRefused BadField 4 (u32_text r ++ (u32_text s ++ (u32_text c ++ offers)))
  answer_unsorted ps wide_r wide_s wide_c spelled fits never = (
    λ other. omega (arith, other.0),
    λ v is.
        let (os, ascending, fit, count, same) = answer_parts v wide_r wide_s wide_c is in
        let one : os ≡ ps = items_same offer_text 8 FitsOffer (omega arith) offer_length offer_prefix os ps fit (recursion_from_All _ _ fits) (same ∙ sym spelled) in
        never (subst AreOffers one ascending),
  )

  pub answer_found : (os : List Offer) → IsU32 r → IsU32 s → c ≤ 2 * MAX_SHARD_LINKS → length os ≡ c → flat_map offer_text os ≡ offers → All FitsOffer os → AreOffers os
      → IsFrameOf (AnswerFrame (record { round = r; shard = s; offers = os })) 4 (u32_text r ++ (u32_text s ++ (u32_text c ++ offers)))
  answer_found os wide wide' few total same fits ascending = search arith

-- ---- a fault

fault_unlike : (v : FrameValue) (r s code : ℕ) (body rest rest' : List ℕ) → IsU32 r → IsU32 s → body ≡ u32_text r ++ rest → rest ≡ u32_text s ++ rest'
    → code ≡ get_or rest' 0 0 → (1 ≤ code → code ≤ 3 → ⊥) → IsFrameOf v 5 body → ⊥
fault_unlike a1 a2 a3 a4 a5 a6 a7 a8 a9 a10 a11 a12 a13 a14 = search (arith, two_prefix, shard_kind)

pub fault_refused : (r s code : ℕ) (body rest rest' : List ℕ) → IsU32 r → IsU32 s → body ≡ u32_text r ++ rest → rest ≡ u32_text s ++ rest'
    → code ≡ get_or rest' 0 0 → (1 ≤ code → code ≤ 3 → ⊥) → BodyRefused BadField 5 body
fault_refused r s code body rest rest' wide wide' first second here never = search (arith, fault_unlike)
