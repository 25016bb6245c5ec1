-- Bytes that begin with a lawful frame's text aren't rejected.
use Rattle.std.proofs.Common.{◌≡◌, ℕ, ◌+◌, ◌*◌, List, [], ◌∷◌, ◌++◌, length, refl, sym, ap, subst, ◌∙◌, append_assoc, arith, inl, inr}
use Rattle.std.specs.Int.{w16, from_be_bytes}
use Rattle.std.specs.List.{flat_map}
use Rattle.std.proofs.lemmas.Bool.{cases_Bool, cond-true, cond-false}
use Rattle.std.proofs.lemmas.List.{length-append, take_at}
use Rattle.links.specs.declared.links.Link.{Link}
use Rattle.frames.specs.FrameValue.{FrameValue, HelloFrame, ShardFrame, AskFrame, AnswerFrame, FaultFrame}
use Rattle.frames.specs.FrameText.{u16_text, u32_text, are_narrow, links_text, offer_text, kind_of, body_of, text_of}
use Rattle.frames.specs.Lawful.{IsVersion, IsLawful}
use Rattle.frames.specs.OneText.{IsNeverRefused}
use Rattle.limits.specs.declared.TheConstants.{MAX_SHARD_LINKS, MAX_VERTICES}
use Rattle.frames.specs.Refusals.{IsWithItems, IsPossible, IsOtherVersion, HasBody, StreamRefused, kind_at, body_at}
use Rattle.frames.specs.FrameStream.{IsOfStream}
use Rattle.frames.specs.declared.fault.FrameFault.{FrameFault}
use Rattle.frames.specs.declared.fault.FrameFault.TheVariants.{BadKind, BadLength, BadField, BadVersion, Ended, Torn}
use Rattle.frames.proofs.Texts.{u16_length, u32_length, three_length, u16_again, offer_length, items_length, narrow_length, wide_length}
use Rattle.frames.proofs.OneText.{body_short, shard_kind}
use Rattle.frames.proofs.Streams.{whole_body}

shard_length : (n : ℕ) (ls : List Link) → length (body_of (ShardFrame n ls)) ≡ 8 + length (links_text ls)
shard_length n ls = omega (arith, length-append (u32_text n) (u32_text (length ls) ++ links_text ls), length-append (u32_text (length ls)) (links_text ls), u32_length n, u32_length (length ls))

possible_of : (v : FrameValue) → IsLawful v → IsPossible (kind_of v) (length (body_of v))
possible_of (HelloFrame v w) lawful =
    let long : length (body_of (HelloFrame v w)) ≡ 6 = omega (arith, length-append (u16_text v) (u32_text w), u16_length v, u32_length w) in
    grind (arith, long)
possible_of (ShardFrame n ls) lawful = elim (cases_Bool (are_narrow ls)) [
  | inl narrow ↦
      let kind : kind_of (ShardFrame n ls) ≡ 2 = cond-true (are_narrow ls) 2 6 narrow in
      let items : IsWithItems 8 12 MAX_SHARD_LINKS (length (body_of (ShardFrame n ls))) = (length ls, lawful.count, omega (arith, shard_length n ls, narrow_length ls narrow)) in
      grind (arith, kind, items)
  | inr wide ↦
      let kind : kind_of (ShardFrame n ls) ≡ 6 = cond-false (are_narrow ls) 2 6 wide in
      let items : IsWithItems 8 16 MAX_SHARD_LINKS (length (body_of (ShardFrame n ls))) = (length ls, lawful.count, omega (arith, shard_length n ls, wide_length ls wide)) in
      grind (arith, kind, items)
]
possible_of (AskFrame r s ls) lawful =
    let items : IsWithItems 12 4 MAX_VERTICES (length (body_of (AskFrame r s ls))) = (
      length ls,
      lawful.labels.few_vertices,
      omega (arith, three_length r s (length ls) (flat_map u32_text ls), items_length u32_text 4 u32_length ls),
    ) in
    grind (arith, items)
possible_of (AnswerFrame a) lawful =
    let items : IsWithItems 12 8 (2 * MAX_SHARD_LINKS) (length (body_of (AnswerFrame a))) = (
      length a.offers,
      lawful.count,
      omega (arith, three_length a.round a.shard (length a.offers) (flat_map offer_text a.offers), items_length offer_text 8 offer_length a.offers),
    ) in
    grind (arith, items)
possible_of (FaultFrame r s c) lawful =
    let long : length (body_of (FaultFrame r s c)) ≡ 9 = omega (arith, length-append (u32_text r) (u32_text s ++ c ∷ []), length-append (u32_text s) (c ∷ []), u32_length r, u32_length s) in
    grind (arith, long)

lawful_version : (v : FrameValue) → IsLawful v → IsOtherVersion (kind_of v) (body_of v) → ⊥
lawful_version (HelloFrame v w) lawful other =
    other.1 (subst IsVersion (sym (ap (from_be_bytes w16) (take_at (u16_text v) (u32_text w) 2 (u16_length v)) ∙ u16_again v (omega (arith, lawful.version.to_this)))) lawful.version)
lawful_version (ShardFrame n ls) lawful other = shard_kind 1 n ls (omega arith) (omega arith) other.0
lawful_version v lawful other = omega (arith, other.0)

module _ (v : FrameValue) (rest : List ℕ) (lawful : IsLawful v) where
  whole : HasBody (text_of v ++ rest) × (kind_at (text_of v ++ rest) ≡ kind_of v) × (body_at (text_of v ++ rest) ≡ body_of v)
  whole =
      whole_body (kind_of v) (length (body_of v)) (text_of v ++ rest) (body_of v) rest (body_short v lawful) (possible_of v lawful) refl
      (append_assoc (kind_of v ∷ u32_text (length (body_of v))) (body_of v) rest)

  unrefused : (fault : FrameFault) → IsOfStream fault → StreamRefused fault (text_of v ++ rest) → ⊥
  unrefused Ended of_stream none = cc
  unrefused Torn of_stream torn = elim torn [ inl short ↦ omega (arith, short.1, whole.0.0.0) | inr short ↦ omega (arith, short.1, whole.0.1) ]
  unrefused BadKind of_stream bad = bad.1 whole.0.0.1.known
  unrefused BadLength of_stream bad = bad.1.1 whole.0.0.1
  unrefused BadVersion of_stream bad = lawful_version v lawful (subst (λ (k : ℕ). IsOtherVersion k (body_of v)) whole.1 (subst (IsOtherVersion (kind_at (text_of v ++ rest))) whole.2 bad.1))
  unrefused BadField of_stream bad = bad.1.1 v (record { lawful = lawful; kind = sym whole.1; body = sym whole.2 })
  unrefused _ of_stream bad = of_stream

pub never_refused : IsNeverRefused
never_refused v rest fault lawful = unrefused v rest lawful fault
