-- Each lawful frame has one text. The kind and the length come first, so two equal streams have bodies of the same
-- length. The fields of a body are then equal one after the other.
use Rattle.std.proofs.Common.{◌≡◌, ℕ, suc, ◌+◌, ◌-◌, ◌^◌, ◌<◌, ◌≤◌, ◌≢◌, Bool, true, false, cond, List, [], ◌∷◌, ◌++◌, length, get_or, refl, sym, ap, ◌∙◌, append_assoc, arith, inl, inr}
use Rattle.std.specs.List.{flat_map, AllByRecursion}
use Rattle.std.proofs.lemmas.Bool.{cases_Bool, cases_cond}
use Rattle.std.proofs.lemmas.List.{length-append}
use Rattle.std.proofs.lemmas.List.Elements.{recursion_from_All}
use Rattle.links.specs.declared.links.Link.{Link}
use Rattle.links.specs.Labels.{AreLabels}
use Rattle.links.specs.AnswerValue.{AnswerValue}
use Rattle.frames.specs.FrameValue.{FrameValue, HelloFrame, ShardFrame, AskFrame, AnswerFrame, FaultFrame}
use Rattle.frames.specs.FrameText.{u16_text, u32_text, are_narrow, link_text, wide_link_text, links_text, offer_text, kind_of, body_of}
use Rattle.frames.specs.Lawful.{IsU32, IsShard, IsAsk, IsAnswer, IsLawful}
use Rattle.frames.specs.OneText.{EachHasOneText}
use Rattle.frames.proofs.Texts.{parts_same, u16_length, u32_length, three_length, u16_prefix, u32_prefix, link_prefix, wide_link_prefix, offer_prefix, FitsNarrow, FitsWide, FitsOffer}
use Rattle.frames.proofs.Texts.{narrow_fit, wide_fit, narrow_text, wide_text, links_length, link_length, wide_link_length, offer_length, items_length, items_same}

-- ---- the fields of each body, given that they fit

pub hello_same : (v w v' w' : ℕ) → v < 2 ^ 16 → v' < 2 ^ 16 → IsU32 w → IsU32 w' → u16_text v ++ u32_text w ≡ u16_text v' ++ u32_text w' → (v ≡ v') × (w ≡ w')
hello_same v w v' w' fits fits' wide wide' same =
    let version = u16_prefix v v' (u32_text w) (u32_text w') fits fits' same in
    let worker = u32_prefix w w' [] [] wide wide' (ap (λ (t : List ℕ). t ++ []) version.1) in
    (version.0, worker.0)

pub two_prefix : (a b c d : ℕ) (x y : List ℕ) → IsU32 a → IsU32 b → IsU32 c → IsU32 d
    → u32_text a ++ (u32_text b ++ x) ≡ u32_text c ++ (u32_text d ++ y) → (a ≡ c) × (b ≡ d) × (x ≡ y)
two_prefix a b c d x y fits_a fits_b fits_c fits_d same = search (arith, u32_prefix)

-- labels of vertices are at most 2^26
labels_below : (labels : List ℕ) → ((k : ℕ) → k < length labels → get_or labels k 0 < 2 ^ 32) → AllByRecursion IsU32 labels
labels_below [] below = tt
labels_below (l ∷ labels) below = (below 0 (omega arith), labels_below labels (λ k lt. below (suc k) (omega arith)))

pub labels_fit : (labels : List ℕ) → AreLabels labels → AllByRecursion IsU32 labels
labels_fit labels are = labels_below labels (λ k lt.
    let at = are.labelled (k + 1) (omega arith) (omega arith) in
    let below : get_or labels (k + 1 - 1) 0 ≤ k + 1 = at.at_most_itself in
    let place : k + 1 - 1 ≡ k = omega arith in
    omega (arith, are.few_vertices, rw place at below))

-- the kind of a shard decides the spelling of its links
abbrev pub kind_by : Bool → ℕ
kind_by narrow = cond narrow 2 6

pub alike : (a b : Bool) → kind_by a ≡ kind_by b → a ≡ b
alike a1 a2 a3 = search arith

pub narrow_same : (ls ls' : List Link) → are_narrow ls ≡ true → are_narrow ls' ≡ true → flat_map link_text ls ≡ flat_map link_text ls' → ls ≡ ls'
narrow_same ls ls' narrow narrow' same = items_same link_text 12 FitsNarrow (omega arith) link_length link_prefix ls ls' (narrow_fit ls narrow) (narrow_fit ls' narrow') same

pub wide_same : (ls ls' : List Link) → flat_map wide_link_text ls ≡ flat_map wide_link_text ls' → ls ≡ ls'
wide_same ls ls' same = items_same wide_link_text 16 FitsWide (omega arith) wide_link_length wide_link_prefix ls ls' (wide_fit ls) (wide_fit ls') same

links_same : (ls ls' : List Link) → are_narrow ls ≡ are_narrow ls' → links_text ls ≡ links_text ls' → ls ≡ ls'
links_same ls ls' same_kind same = search (arith, cases_Bool, narrow_same, narrow_text, wide_same, wide_text)

pub shard_same : (n n' : ℕ) (ls ls' : List Link) → IsShard n ls → IsU32 n' → length ls' < 2 ^ 32 → kind_of (ShardFrame n ls) ≡ kind_of (ShardFrame n' ls')
    → body_of (ShardFrame n ls) ≡ body_of (ShardFrame n' ls') → (n ≡ n') × (ls ≡ ls')
shard_same n n' ls ls' lawful wide short kind same = search (arith, two_prefix, links_same, alike)

pub ask_same : (r r' s s' : ℕ) (ls ls' : List ℕ) → IsAsk r s ls → IsU32 r' → IsU32 s' → length ls' < 2 ^ 32 → AllByRecursion IsU32 ls'
    → body_of (AskFrame r s ls) ≡ body_of (AskFrame r' s' ls') → (r ≡ r') × (s ≡ s') × (ls ≡ ls')
ask_same r r' s s' ls ls' lawful wide wide' short fits same =
    let prefix = two_prefix r s r' s' (u32_text (length ls) ++ flat_map u32_text ls) (u32_text (length ls') ++ flat_map u32_text ls') lawful.round (omega (arith, lawful.shard)) wide wide' same in
    let count = u32_prefix (length ls) (length ls') (flat_map u32_text ls) (flat_map u32_text ls') (omega (arith, lawful.labels.few_vertices)) short prefix.2 in
    (prefix.0, prefix.1, items_same u32_text 4 IsU32 (omega arith) u32_length u32_prefix ls ls' (labels_fit ls lawful.labels) fits count.1)

pub answer_same : (a b : AnswerValue) → IsAnswer a → IsU32 b.round → IsU32 b.shard → length b.offers < 2 ^ 32 → AllByRecursion FitsOffer b.offers
    → body_of (AnswerFrame a) ≡ body_of (AnswerFrame b) → a ≡ b
answer_same a b lawful wide wide' short fits same =
    let prefix = two_prefix a.round a.shard b.round b.shard (u32_text (length a.offers) ++ flat_map offer_text a.offers)
    (u32_text (length b.offers) ++ flat_map offer_text b.offers) lawful.round lawful.shard wide wide' same in
    let count = u32_prefix (length a.offers) (length b.offers) (flat_map offer_text a.offers) (flat_map offer_text b.offers) (omega (arith, lawful.count)) short prefix.2 in
    let offers = items_same offer_text 8 FitsOffer (omega arith) offer_length offer_prefix a.offers b.offers (recursion_from_All _ _ lawful.fit) fits count.1 in
    λ i. record { round = prefix.0 i; shard = prefix.1 i; offers = offers i }

pub fault_same : (r r' s s' c c' : ℕ) → IsU32 r → IsU32 r' → IsU32 s → IsU32 s' → body_of (FaultFrame r s c) ≡ body_of (FaultFrame r' s' c') → (r ≡ r') × (s ≡ s') × (c ≡ c')
fault_same r r' s s' c c' wide wide' wide_s wide_s' same = search (arith, two_prefix)

-- ---- bodies of one kind

-- a shard has no kind other than its two
pub shard_kind : (kind n : ℕ) (ls : List Link) → kind ≢ 2 → kind ≢ 6 → kind_of (ShardFrame n ls) ≡ kind → ⊥
shard_kind kind n ls not_two not_six is = elim (cases_cond (are_narrow ls) 2 6 (kind_of (ShardFrame n ls)) refl) [ inl two ↦ not_two (sym is ∙ two) | inr six ↦ not_six (sym is ∙ six) ]

bodies_same : (v w : FrameValue) → IsLawful v → IsLawful w → kind_of v ≡ kind_of w → body_of v ≡ body_of w → v ≡ w
bodies_same (HelloFrame v w) (HelloFrame v' w') first second kind same =
    let fields = hello_same v w v' w' (omega (arith, first.version.to_this)) (omega (arith, second.version.to_this)) (omega (arith, first.worker)) (omega (arith, second.worker)) same in
    λ i. HelloFrame (fields.0 i) (fields.1 i)
bodies_same (ShardFrame n ls) (ShardFrame n' ls') first second kind same =
    let fields = shard_same n n' ls ls' first (omega (arith, second.number)) (omega (arith, second.count)) kind same in
    λ i. ShardFrame (fields.0 i) (fields.1 i)
bodies_same (AskFrame r s ls) (AskFrame r' s' ls') first second kind same =
    let fields = ask_same r r' s s' ls ls' first second.round (omega (arith, second.shard)) (omega (arith, second.labels.few_vertices)) (labels_fit ls' second.labels) same in
    λ i. AskFrame (fields.0 i) (fields.1 i) (fields.2 i)
bodies_same (AnswerFrame a) (AnswerFrame b) first second kind same =
    ap AnswerFrame (answer_same a b first second.round second.shard (omega (arith, second.count)) (recursion_from_All _ _ second.fit) same)
bodies_same (FaultFrame r s c) (FaultFrame r' s' c') first second kind same =
    let fields = fault_same r r' s s' c c' first.round second.round first.shard second.shard same in
    λ i. FaultFrame (fields.0 i) (fields.1 i) (fields.2 i)
bodies_same (HelloFrame v w) (ShardFrame n ls) first second kind same = absurd (shard_kind 1 n ls (omega arith) (omega arith) (sym kind))
bodies_same (AskFrame r s ls) (ShardFrame n ls') first second kind same = absurd (shard_kind 3 n ls' (omega arith) (omega arith) (sym kind))
bodies_same (AnswerFrame a) (ShardFrame n ls) first second kind same = absurd (shard_kind 4 n ls (omega arith) (omega arith) (sym kind))
bodies_same (FaultFrame r s c) (ShardFrame n ls) first second kind same = absurd (shard_kind 5 n ls (omega arith) (omega arith) (sym kind))
bodies_same (ShardFrame n ls) (HelloFrame v w) first second kind same = absurd (shard_kind 1 n ls (omega arith) (omega arith) kind)
bodies_same (ShardFrame n ls) (AskFrame r s ls') first second kind same = absurd (shard_kind 3 n ls (omega arith) (omega arith) kind)
bodies_same (ShardFrame n ls) (AnswerFrame a) first second kind same = absurd (shard_kind 4 n ls (omega arith) (omega arith) kind)
bodies_same (ShardFrame n ls) (FaultFrame r s c) first second kind same = absurd (shard_kind 5 n ls (omega arith) (omega arith) kind)
bodies_same v w first second kind same = absurd (omega (arith, kind))

-- ---- how long a lawful frame's body is

pub body_short : (v : FrameValue) → IsLawful v → IsU32 (length (body_of v))
body_short (HelloFrame v w) lawful = omega (arith, length-append (u16_text v) (u32_text w), u16_length v, u32_length w)
body_short (ShardFrame n ls) lawful =
    omega (
      arith,
      length-append (u32_text n) (u32_text (length ls) ++ links_text ls),
      length-append (u32_text (length ls)) (links_text ls),
      u32_length n,
      u32_length (length ls),
      links_length ls,
      lawful.count,
    )
body_short (AskFrame r s ls) lawful = omega (arith, three_length r s (length ls) (flat_map u32_text ls), items_length u32_text 4 u32_length ls, lawful.labels.few_vertices)
body_short (AnswerFrame a) lawful = omega (arith, three_length a.round a.shard (length a.offers) (flat_map offer_text a.offers), items_length offer_text 8 offer_length a.offers, lawful.count)
body_short (FaultFrame r s c) lawful = omega (arith, length-append (u32_text r) (u32_text s ++ c ∷ []), length-append (u32_text s) (c ∷ []), u32_length r, u32_length s)

pub one_text : EachHasOneText
one_text v w x y first second same = search (arith, u32_prefix, body_short, append_assoc, parts_same, bodies_same)
