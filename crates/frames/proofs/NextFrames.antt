-- A frame after an ask, from its head and its body.
use Rattle.std.proofs.Common.{◌≡◌, ℕ, ◌+◌, ◌*◌, ◌<◌, ◌≤◌, ◌^◌, List, ◌∷◌, ◌++◌, length, take, drop, get_or, All, refl, sym, ap, subst, ◌∙◌, inl, inr, arith}
use Rattle.std.specs.Prelude.{◌≢◌, Result, Ok, Err, OnOk, is_ok, if◌then◌else◌}
use Rattle.std.specs.List.{flat_map}
use Rattle.std.proofs.Math.Seq.{take-add}
use Rattle.std.proofs.lemmas.List.{length-append, append_cancel_left, get_or_default}
use Rattle.std.proofs.lemmas.List.Elements.{All-append, All-take}
use Rattle.std.proofs.lemmas.Grind.{flat_map-append}
use Rattle.byte_streams.specs.Streams.{SourceState, Gave}
use Rattle.byte_streams.proofs.Streaming.{gave_more}
use Rattle.limits.specs.declared.TheConstants.{MAX_SHARDS}
use Rattle.links.specs.Labels.{AreLabels}
use Rattle.frames.specs.FrameValue.{FrameValue, AskFrame}
use Rattle.frames.specs.FrameText.{u32_text, text_of}
use Rattle.frames.specs.Lawful.{IsU32, IsLawful}
use Rattle.frames.specs.Refusals.{IsPossible}
use Rattle.frames.specs.ReadFault.{IsReadRefused, IsCutShort}
use Rattle.frames.specs.NextFrame.{next_value, IsAskUnder, BodyCame, IsBodyRefused, WantsLate, IsStopped}
use Rattle.frames.specs.Pieces.{BytesCame}
use Rattle.frames.specs.declared.next_frame.NextFrame.{NextFrame}
use Rattle.frames.specs.declared.fault.FrameFault.{FrameFault}
use Rattle.frames.specs.declared.fault.FrameFault.TheVariants.{BadField, Memory}
use Rattle.frames.proofs.Streams.{frame_gave, cut_more, cut_refused, body_refused}
use Rattle.frames.proofs.Texts.{u32_length, items_length}
use Rattle.frames.proofs.Pieces.{list_came, list_refused, list_cut, list_stopped, list_late}
use Rattle.frames.proofs.Decoded.{ask_refused, ask_begun, ask_found, ask_unlabelled}

-- ---- a head and the body after it

pub frame_behind : (v : FrameValue) (kind len : ℕ) (s t u : SourceState) → Gave 0 0 (kind ∷ u32_text len) s t → BodyCame v kind len t u
    → IsLawful v × Gave 0 0 (text_of v) s u
frame_behind v kind len s t u first came = search (arith, frame_gave)

pub refused_behind : (fault : FrameFault) (kind len : ℕ) (s t u : SourceState) → IsU32 len → IsPossible kind len → Gave 0 0 (kind ∷ u32_text len) s t
    → IsBodyRefused fault kind len t u → IsReadRefused fault s u
refused_behind a1 a2 a3 a4 a5 a6 a7 a8 a9 a10 = search (arith, cut_refused, body_refused)

-- ---- the numbers of an ask, one piece at a time

-- numbers, and the same next ones as in the last ask
pub same_more : (last : List ℕ) (came k : ℕ) → take (came + k) last ≡ take came last ++ take k (drop came last)
same_more last came k = take-add came k last

-- if the next numbers have other bytes than those of the last ask, all of them differ
pub others_here : (last more new piece : List ℕ) (came k : ℕ) → flat_map u32_text more ≡ piece → flat_map u32_text (take k (drop came last)) ≢ piece
    → new ≡ take came last ++ more → new ≢ take (came + k) last
others_here last more new piece came k spelled other is same = search (arith, append_cancel_left, same_more)

pub more_text : (before more after piece : List ℕ) → after ≡ before ++ more → flat_map u32_text more ≡ piece → flat_map u32_text after ≡ flat_map u32_text before ++ piece
more_text before more after piece is spelled = search (arith, flat_map-append)

pub all_fit : (numbers : List ℕ) → ((i : ℕ) → get_or numbers i 0 < 2 ^ 32) → All IsU32 numbers
all_fit numbers fit = λ k d within. subst IsU32 (get_or_default numbers k 0 d within) (fit k)

pub first_fit : (numbers : List ℕ) (n : ℕ) → ((i : ℕ) → get_or numbers i 0 < 2 ^ 32) → All IsU32 (take n numbers)
first_fit numbers n fit = All-take IsU32 n numbers (all_fit numbers fit)

pub other_fit : (new old more : List ℕ) → new ≡ old ++ more → All IsU32 more → All IsU32 old → All IsU32 new
other_fit new old more is fits before = subst (All IsU32) (sym is) (All-append IsU32 old more before fits)

pub pushed_fit : {T E : Type 0} (result : Result T E) (new old piece : List ℕ) → OnOk result ((more : List ℕ) × (new ≡ old ++ more) × (flat_map u32_text more ≡ piece) × All IsU32 more)
    → OnOk result (All IsU32 old → All IsU32 new)
pushed_fit a1 a2 a3 a4 a5 = search (arith, other_fit)

pub pushed : {T E : Type 0} (result : Result T E) (new old read numbers piece : List ℕ) → new ≡ (if is_ok result then old ++ read else old) → read ≡ numbers
    → (flat_map u32_text numbers ≡ piece) × All IsU32 numbers → OnOk result ((more : List ℕ) × (new ≡ old ++ more) × (flat_map u32_text more ≡ piece) × All IsU32 more)
pushed a1 a2 a3 a4 a5 a6 a7 a8 a9 = search arith

pub bytes_of : (numbers : List ℕ) → length (flat_map u32_text numbers) ≡ 4 * length numbers
bytes_of numbers = omega (arith, items_length u32_text 4 u32_length numbers)

-- bytes of a body, and then less than the rest
pub stopped_in : (fault : FrameFault) (count len : ℕ) (body : List ℕ) (x y z : SourceState) → length body + count ≤ len → Gave 0 0 body x y → IsCutShort fault count y z → IsStopped fault len x z
stopped_in fault count len body x y z within first cut =
    let all = cut_more fault count len body x y z within first cut in
    record { bytes = all.bytes; gave = all.gave; within = omega (arith, all.short); short = inr all.short; cause = all.cause }

-- bytes of a body, and no memory for more
pub stopped_at : (len : ℕ) (body piece : List ℕ) (x y z : SourceState) → length body + length piece ≤ len → Gave 0 0 body x y → Gave 0 0 piece y z → IsStopped Memory len x z
stopped_at len body piece x y z within first second = record {
  bytes = body ++ piece;
  gave = gave_more 0 0 body piece x y z first second;
  within = omega (arith, length-append body piece);
  short = inl refl;
  cause = inr (inr refl);
}

-- ---- the twelve bytes before them

module _ (r s c n : ℕ) (x y z : SourceState) (came : Gave 0 0 (u32_text r ++ (u32_text s ++ u32_text c)) x y) where
  long : length (u32_text r ++ (u32_text s ++ u32_text c)) + 4 * n ≡ 12 + 4 * n
  long = omega (arith, length-append (u32_text r) (u32_text s ++ u32_text c), length-append (u32_text s) (u32_text c), u32_length r, u32_length s, u32_length c)

  -- less than the labels came
  pub ask_unpassed : (fault : FrameFault) → IsCutShort fault (4 * n) y z → IsBodyRefused fault 3 (12 + 4 * n) x z
  ask_unpassed fault cut = list_cut 3 (12 + 4 * n) (4 * n) (u32_text r ++ (u32_text s ++ u32_text c)) long x y z came fault cut

  -- fields that no ask has
  pub ask_unlawful : IsU32 r → IsU32 s → IsU32 c → BytesCame (4 * n) y z → (s < MAX_SHARDS → c ≡ n → ⊥) → IsBodyRefused BadField 3 (12 + 4 * n) x z
  unfolding u32_text
  ask_unlawful wide_r wide_s wide_c behind never =
      list_refused 3 (12 + 4 * n) (4 * n) (u32_text r ++ (u32_text s ++ u32_text c)) long x y z came BadField behind.bytes behind.counted behind.gave
      (ask_refused r s c behind.bytes wide_r wide_s wide_c (λ low count. never low (omega (arith, count, behind.counted))))

  module _ (low : s < MAX_SHARDS) (counted : c ≡ n) where
    -- less than all labels came, or memory ran out
    pub ask_stopped : (fault : FrameFault) → IsStopped fault (4 * n) y z → IsBodyRefused fault 3 (12 + 4 * n) x z
    unfolding u32_text
    ask_stopped fault stopped =
        list_stopped 3 (12 + 4 * n) (4 * n) (u32_text r ++ (u32_text s ++ u32_text c)) long x y z came fault stopped
        (λ labels count. ask_begun r s c labels low (omega (arith, counted, count)))

    pub ask_late : (fault : FrameFault) → WantsLate fault 3 (12 + 4 * n) x
    unfolding u32_text
    ask_late fault = list_late 3 (12 + 4 * n) (4 * n) (u32_text r ++ (u32_text s ++ u32_text c)) long x y z came fault (λ labels count. ask_begun r s c labels low (omega (arith, counted, count)))

    module _ (wide_r : IsU32 r) (ls : List ℕ) (count : length ls ≡ n) (behind : Gave 0 0 (flat_map u32_text ls) y z) where
      pub ask_came : AreLabels ls → BodyCame (AskFrame r s ls) 3 (12 + 4 * n) x z
      unfolding u32_text
      ask_came are =
          list_came 3 (12 + 4 * n) (4 * n) (u32_text r ++ (u32_text s ++ u32_text c)) long x y z came (AskFrame r s ls) (flat_map u32_text ls) (omega (arith, bytes_of ls, count)) behind
          (ask_found r s c (flat_map u32_text ls) ls wide_r low (omega (arith, counted, count)) refl are)

      pub ask_read : {A : Type 0} (last : List ℕ) (next : NextFrame A) → IsAskUnder last r s ls next → BodyCame (next_value last next) 3 (12 + 4 * n) x z
      ask_read last next is = subst (λ (w : FrameValue). BodyCame w 3 (12 + 4 * n) x z) (sym is.value) (ask_came is.labels)

      pub no_ask_read : IsU32 s → IsU32 c → (fault : FrameFault) → All IsU32 ls → (fault ≡ BadField) × ¬ AreLabels ls → IsBodyRefused fault 3 (12 + 4 * n) x z
      unfolding u32_text
      no_ask_read wide_s wide_c fault fit (is, never) =
          subst (λ (f : FrameFault). IsBodyRefused f 3 (12 + 4 * n) x z) (sym is)
          (list_refused 3 (12 + 4 * n) (4 * n) (u32_text r ++ (u32_text s ++ u32_text c)) long x y z came BadField (flat_map u32_text ls) (omega (arith, bytes_of ls, count)) behind
          (ask_unlabelled r s c (flat_map u32_text ls) ls wide_r wide_s wide_c refl fit never))
