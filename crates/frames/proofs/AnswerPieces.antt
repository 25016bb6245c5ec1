-- An answer whose offers arrive in pieces.
use Rattle.std.proofs.Common.{◌≡◌, ℕ, ◌+◌, ◌*◌, ◌≤◌, List, [], ◌∷◌, ◌++◌, length, All, refl, sym, ap, subst, ◌∙◌, append_assoc, arith}
use Rattle.std.specs.List.{flat_map}
use Rattle.std.proofs.lemmas.List.{length-append}
use Rattle.byte_streams.specs.Streams.{SourceState, Gave}
use Rattle.limits.specs.declared.TheConstants.{MAX_SHARD_LINKS}
use Rattle.links.specs.Offers.{Offer, AreOffers}
use Rattle.frames.specs.FrameValue.{AnswerFrame}
use Rattle.frames.specs.FrameText.{u32_text, offer_text}
use Rattle.frames.specs.Lawful.{IsU32}
use Rattle.frames.specs.Refusals.{IsListBegun}
use Rattle.frames.specs.ReadFault.{IsCutShort}
use Rattle.frames.specs.NextFrame.{BodyCame, IsBodyRefused, WantsLate, IsStopped}
use Rattle.frames.specs.Pieces.{BytesCame, SpellOffers}
use Rattle.frames.specs.declared.fault.FrameFault.{FrameFault}
use Rattle.frames.specs.declared.fault.FrameFault.TheVariants.{BadField}
use Rattle.frames.proofs.Texts.{FitsOffer, u32_length, offer_length, items_length}
use Rattle.frames.proofs.Listed.{offer_more, fits_more}
use Rattle.frames.proofs.Decoded.{answer_refused, answer_begun, answer_found, answer_unsorted}
use Rattle.frames.proofs.Pieces.{list_came, list_refused, list_cut, list_stopped, list_late}

-- ---- offers are appended

-- another offer, from the bytes that are left
pub pushed_offer : (new old before more : List Offer) (component place : ℕ) (bytes rest rest' rest'' : List ℕ) → new ≡ old ++ (component, place) ∷ [] → old ≡ before ++ more
    → flat_map offer_text more ++ rest ≡ bytes → All FitsOffer more → FitsOffer (component, place) → rest ≡ u32_text component ++ rest' → rest' ≡ u32_text place ++ rest''
    → (next : List Offer) × (new ≡ before ++ next) × (flat_map offer_text next ++ rest'' ≡ bytes) × All FitsOffer next
pushed_offer new old before more component place bytes rest rest' rest'' is so_far read fit this first second = (
  more ++ (component, place) ∷ [],
  is ∙ ap (λ (t : List Offer). t ++ (component, place) ∷ []) so_far ∙ append_assoc before more ((component, place) ∷ []),
  offer_more (more ++ (component, place) ∷ []) more component place bytes rest rest' rest'' read first second refl,
  fits_more (more ++ (component, place) ∷ []) more component place fit this refl,
)

-- ---- the twelve bytes before the offers

module _ (r s c k : ℕ) (x y z : SourceState) (came : Gave 0 0 (u32_text r ++ (u32_text s ++ u32_text c)) x y) where
  long : length (u32_text r ++ (u32_text s ++ u32_text c)) + 8 * k ≡ 12 + 8 * k
  long = omega (arith, length-append (u32_text r) (u32_text s ++ u32_text c), length-append (u32_text s) (u32_text c), u32_length r, u32_length s, u32_length c)

  -- less than the offers came
  pub answer_unpassed : (fault : FrameFault) → IsCutShort fault (8 * k) y z → IsBodyRefused fault 4 (12 + 8 * k) x z
  answer_unpassed fault cut = list_cut 4 (12 + 8 * k) (8 * k) (u32_text r ++ (u32_text s ++ u32_text c)) long x y z came fault cut

  -- a count that isn't that of the offers
  pub answer_unlawful : IsU32 r → IsU32 s → IsU32 c → BytesCame (8 * k) y z → (c ≡ k → ⊥) → IsBodyRefused BadField 4 (12 + 8 * k) x z
  unfolding u32_text
  answer_unlawful wide_r wide_s wide_c behind never =
      list_refused 4 (12 + 8 * k) (8 * k) (u32_text r ++ (u32_text s ++ u32_text c)) long x y z came BadField behind.bytes behind.counted behind.gave
      (answer_refused r s c behind.bytes wide_r wide_s wide_c (λ count. never (omega (arith, count, behind.counted))))

  module _ (counted : c ≡ k) where
    begun : (offers : List ℕ) → length offers ≡ 8 * k → IsListBegun 4 ((u32_text r ++ (u32_text s ++ u32_text c)) ++ offers)
    unfolding u32_text
    begun offers count = answer_begun r s c offers (omega (arith, counted, count))

    -- less than all offers came, or memory ran out
    pub answer_stopped : (fault : FrameFault) → IsStopped fault (8 * k) y z → IsBodyRefused fault 4 (12 + 8 * k) x z
    answer_stopped fault stopped = list_stopped 4 (12 + 8 * k) (8 * k) (u32_text r ++ (u32_text s ++ u32_text c)) long x y z came fault stopped begun

    pub answer_late : (fault : FrameFault) → WantsLate fault 4 (12 + 8 * k) x
    answer_late fault = list_late 4 (12 + 8 * k) (8 * k) (u32_text r ++ (u32_text s ++ u32_text c)) long x y z came fault begun

    module _ (wide_r : IsU32 r) (wide_s : IsU32 s) (pairs : List Offer) (bytes : List ℕ) (count : length bytes ≡ 8 * k) (behind : Gave 0 0 bytes y z) (are : SpellOffers pairs bytes) where
      pub answer_came : k ≤ 2 * MAX_SHARD_LINKS → (os : List Offer) → os ≡ pairs → AreOffers os → BodyCame (AnswerFrame (record { round = r; shard = s; offers = os })) 4 (12 + 8 * k) x z
      unfolding u32_text
      answer_came few os same ascending =
          let spelled : flat_map offer_text os ≡ bytes = ap (flat_map offer_text) same ∙ are.bytes_are in
          list_came 4 (12 + 8 * k) (8 * k) (u32_text r ++ (u32_text s ++ u32_text c)) long x y z came (AnswerFrame (record { round = r; shard = s; offers = os })) bytes count behind
          (answer_found r s c bytes os wide_r wide_s (omega (arith, counted, few)) (omega (
            arith,
            ap length spelled,
            items_length offer_text 8 offer_length os,
            count,
            counted,
          )) spelled (subst (All FitsOffer) (sym same) are.fit) ascending)

      pub no_answer_came : IsU32 c → (AreOffers pairs → ⊥) → IsBodyRefused BadField 4 (12 + 8 * k) x z
      unfolding u32_text
      no_answer_came wide_c never = search (arith, list_refused, long, answer_unsorted)
