-- What the parts of a stream say about the whole.
use Rattle.std.proofs.Common.{◌≡◌, ℕ, ◌+◌, ◌<◌, ◌≤◌, List, [], ◌∷◌, ◌++◌, length, take, drop, refl, sym, ap, subst, ◌∙◌, append-nil, arith, inl, inr}
use Rattle.std.specs.Int.{w32, from_be_bytes}
use Rattle.std.proofs.lemmas.List.{nil_from_length, length-append, take_at, drop_at, take_all}
use Rattle.byte_streams.specs.Streams.{SourceState, Gave}
use Rattle.byte_streams.proofs.Streaming.{gave_more}
use Rattle.frames.specs.FrameValue.{FrameValue}
use Rattle.frames.specs.FrameText.{u32_text, body_of, text_of}
use Rattle.frames.specs.Lawful.{IsU32}
use Rattle.frames.specs.Refusals.{IsPossible, IsFrameOf, BodyRefused, kind_at, length_at, body_at, HasGoodHead, HasBody, IsInBody, StreamRefused}
use Rattle.frames.specs.ReadFault.{failures_of, ends_of, IsReadRefused, CutsShort, IsCutShort}
use Rattle.frames.specs.declared.fault.FrameFault.{FrameFault}
use Rattle.frames.specs.declared.fault.FrameFault.TheVariants.{BadField, BadVersion, Memory}
use Rattle.frames.proofs.Texts.{u32_length, u32_again}

-- ---- a head

pub head_split : (bytes rest : List ℕ) (n : ℕ) → length bytes ≡ 5 → take 4 (drop 1 bytes) ≡ u32_text n ++ rest → bytes ≡ kind_at bytes ∷ u32_text n
head_split a1 a2 a3 a4 a5 = search (arith, take_all, nil_from_length, length-append, u32_length, append-nil)

-- the length in a stream that begins with a head
length_is : (kind len : ℕ) (rest : List ℕ) → IsU32 len → length_at ((kind ∷ u32_text len) ++ rest) ≡ len
length_is kind len rest wide = ap (from_be_bytes w32) (take_at (u32_text len) rest 4 (u32_length len)) ∙ u32_again len wide

behind_is : (kind len : ℕ) (rest : List ℕ) → drop 5 ((kind ∷ u32_text len) ++ rest) ≡ rest
behind_is kind len rest = drop_at (u32_text len) rest 4 (u32_length len)

head_length : (kind len : ℕ) (rest : List ℕ) → length ((kind ∷ u32_text len) ++ rest) ≡ 5 + length rest
head_length kind len rest = omega (arith, length-append (u32_text len) rest, u32_length len)

pub good_head : (kind len : ℕ) (stream rest : List ℕ) → IsU32 len → IsPossible kind len → stream ≡ (kind ∷ u32_text len) ++ rest → HasGoodHead stream
good_head kind len stream rest wide possible is =
    subst HasGoodHead (sym is) (omega (arith, head_length kind len rest), subst (IsPossible kind) (sym (length_is kind len rest wide)) possible)

-- ---- a frame's text is its head and its body

pub frame_text : (v : FrameValue) (kind len : ℕ) (bytes body : List ℕ) → bytes ≡ kind ∷ u32_text len → length body ≡ len → IsFrameOf v kind body → text_of v ≡ bytes ++ body
frame_text v kind len bytes body head count is = search arith

pub frame_gave : (v : FrameValue) (kind len : ℕ) (bytes body : List ℕ) (s t u : SourceState) → Gave 0 0 bytes s t → Gave 0 0 body t u
    → bytes ≡ kind ∷ u32_text len → length body ≡ len → IsFrameOf v kind body → Gave 0 0 (text_of v) s u
frame_gave v kind len bytes body s t u first second head count is =
    subst (λ (bs : List ℕ). Gave 0 0 bs s u) (sym (frame_text v kind len bytes body head count is)) (gave_more 0 0 bytes body s t u first second)

-- ---- a head that was rejected

-- ---- a body that didn't come

-- bytes of the body, and then less than the rest
pub cut_more : (fault : FrameFault) (count len : ℕ) (body : List ℕ) (s t u : SourceState) → length body + count ≤ len → Gave 0 0 body s t
    → IsCutShort fault count t u → IsCutShort fault len s u
cut_more fault count len body s t u within first cut = record {
  bytes = body ++ cut.bytes;
  gave = gave_more (failures_of fault) (ends_of fault) body cut.bytes s t u first cut.gave;
  short = omega (arith, length-append body cut.bytes, cut.short);
  cause = cut.cause;
}

cut_cause : (fault : FrameFault) (all : List ℕ) → IsInBody all → CutsShort fault → StreamRefused fault all
cut_cause a1 a2 a3 a4 = search arith

-- a head, and less than its body
pub cut_refused : (fault : FrameFault) (kind len : ℕ) (bytes : List ℕ) (s t u : SourceState) → IsU32 len → IsPossible kind len → bytes ≡ kind ∷ u32_text len
    → Gave 0 0 bytes s t → IsCutShort fault len t u → IsReadRefused fault s u
cut_refused fault kind len bytes s t u wide possible head first cut =
    let split : bytes ++ cut.bytes ≡ (kind ∷ u32_text len) ++ cut.bytes = ap (λ (l : List ℕ). l ++ cut.bytes) head in
    let good : HasGoodHead (bytes ++ cut.bytes) = good_head kind len (bytes ++ cut.bytes) cut.bytes wide possible split in
    let size : length (bytes ++ cut.bytes) ≡ 5 + length cut.bytes = ap length split ∙ head_length kind len cut.bytes in
    let stated : length_at (bytes ++ cut.bytes) ≡ len = ap length_at split ∙ length_is kind len cut.bytes wide in
    let inside : length (bytes ++ cut.bytes) < 5 + length_at (bytes ++ cut.bytes) = omega (arith, size, stated, cut.short) in
    record {
      bytes = bytes ++ cut.bytes;
      gave = gave_more (failures_of fault) (ends_of fault) bytes cut.bytes s t u first cut.gave;
      within = inr (good, omega (arith, inside));
      refused = cut_cause fault (bytes ++ cut.bytes) (good, inside) cut.cause;
    }

-- ---- a body that was rejected

-- a stream with a head and a body
pub whole_body : (kind len : ℕ) (stream body rest : List ℕ) → IsU32 len → IsPossible kind len → length body ≡ len → stream ≡ (kind ∷ u32_text len) ++ (body ++ rest)
    → HasBody stream × (kind_at stream ≡ kind) × (body_at stream ≡ body)
whole_body kind len stream body rest wide possible count is =
    let count-is : length_at stream ≡ len = ap length_at is ∙ length_is kind len (body ++ rest) wide in
    let long : 5 + length_at stream ≤ length stream = omega (arith, ap length is, head_length kind len (body ++ rest), length-append body rest, count-is) in
    let there : body_at stream ≡ body = ap (λ (n : ℕ). take n (drop 5 stream)) count-is ∙ ap (λ (t : List ℕ). take len (drop 5 t)) is
    ∙ ap (take len) (behind_is kind len (body ++ rest)) ∙ take_at body rest len count in
    ((good_head kind len stream (body ++ rest) wide possible is, long), ap kind_at is, there)

body_fault : (fault : FrameFault) (all : List ℕ) → HasBody all → BodyRefused fault (kind_at all) (body_at all)
    → StreamRefused fault all × (failures_of fault ≡ 0) × (ends_of fault ≡ 0)
body_fault a1 a2 a3 a4 = search arith

-- a head and its body
pub body_refused : (fault : FrameFault) (kind len : ℕ) (bytes body : List ℕ) (s t u : SourceState) → IsU32 len → IsPossible kind len → length body ≡ len
    → bytes ≡ kind ∷ u32_text len → Gave 0 0 bytes s t → Gave 0 0 body t u → BodyRefused fault kind body → IsReadRefused fault s u
body_refused fault kind len bytes body s t u wide possible count head first second refused =
    let split : bytes ++ body ≡ (kind ∷ u32_text len) ++ body = ap (λ (l : List ℕ). l ++ body) head in
    let whole = whole_body kind len (bytes ++ body) body [] wide possible count (split ∙ ap (λ (l : List ℕ). (kind ∷ u32_text len) ++ l) (sym (append-nil body))) in
    let size : length (bytes ++ body) ≡ 5 + length body = ap length split ∙ head_length kind len body in
    let stated : length_at (bytes ++ body) ≡ len = ap length_at split ∙ length_is kind len body wide in
    let there : BodyRefused fault (kind_at (bytes ++ body)) (body_at (bytes ++ body)) =
    subst (λ (k : ℕ). BodyRefused fault k (body_at (bytes ++ body))) (sym whole.1) (subst (BodyRefused fault kind) (sym whole.2) refused) in
    let is = body_fault fault (bytes ++ body) whole.0 there in
    let gave : Gave 0 0 (bytes ++ body) s u = gave_more 0 0 bytes body s t u first second in
    record {
      bytes = bytes ++ body;
      gave = subst (λ (k : ℕ). Gave k (ends_of fault) (bytes ++ body) s u) (sym is.1) (subst (λ (k : ℕ). Gave 0 k (bytes ++ body) s u) (sym is.2) gave);
      within = inr (whole.0.0, omega (arith, size, stated, count));
      refused = is.0;
    }

-- ---- a piece of the body
