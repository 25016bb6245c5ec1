-- Bodies that arrive in pieces: fields, and a list after them.
use Rattle.std.proofs.Common.{◌≡◌, ℕ, ◌+◌, List, [], ◌++◌, length, sym, ap, subst, ◌∙◌, append-nil, inl, inr, arith}
use Rattle.std.proofs.lemmas.Bool.{cases_lt}
use Rattle.std.proofs.lemmas.List.{length-append, nil_from_length}
use Rattle.byte_streams.specs.Streams.{SourceState, Gave}
use Rattle.byte_streams.proofs.Streaming.{gave_more, consumes-known}
use Rattle.frames.specs.FrameValue.{FrameValue}
use Rattle.frames.specs.FrameText.{u32_text}
use Rattle.frames.specs.Refusals.{IsFrameOf, BodyRefused, IsListBegun}
use Rattle.frames.specs.ReadFault.{failures_of, ends_of, IsCutShort}
use Rattle.frames.specs.NextFrame.{BodyCame, IsBodyRefused, WantsLate, IsStopped}
use Rattle.frames.specs.Pieces.{BytesCame}
use Rattle.frames.specs.declared.fault.FrameFault.{FrameFault}
use Rattle.frames.specs.declared.fault.FrameFault.TheVariants.{Memory}
use Rattle.frames.proofs.Streams.{cut_more}
use Rattle.frames.proofs.Texts.{u32_length}

-- ---- whole bodies

pub whole_came : (v : FrameValue) (kind len : ℕ) (body : List ℕ) (s t : SourceState) → length body ≡ len → Gave 0 0 body s t → IsFrameOf v kind body → BodyCame v kind len s t
whole_came v kind len body s t counted gave is = record { body = body; counted = counted; gave = gave; is = is }

pub whole_refused : (fault : FrameFault) (kind len : ℕ) (body : List ℕ) (s t : SourceState) → length body ≡ len → Gave 0 0 body s t → BodyRefused fault kind body → IsBodyRefused fault kind len s t
whole_refused fault kind len body s t counted gave refused = inr (record { body = body; counted = counted; gave = gave; refused = refused })

-- ---- bytes of another count

pub passed_so_many : (m n : ℕ) (x y : SourceState) → m ≡ n → BytesCame m x y → BytesCame n x y
passed_so_many m n x y is came = subst (λ (k : ℕ). BytesCame k x y) is came

pub unpassed_so_many : (fault : FrameFault) (m n : ℕ) (x y : SourceState) → m ≡ n → IsCutShort fault m x y → IsCutShort fault n x y
unpassed_so_many fault m n x y is cut = subst (λ (k : ℕ). IsCutShort fault k x y) is cut

pub stopped_so_many : (fault : FrameFault) (m n : ℕ) (x y : SourceState) → m ≡ n → IsStopped fault m x y → IsStopped fault n x y
stopped_so_many fault m n x y is stopped = subst (λ (k : ℕ). IsStopped fault k x y) is stopped

-- ---- fields, and the bytes of a list after them

two_filled : (bytes rest none : List ℕ) (a b : ℕ) → length bytes ≡ 8 → bytes ≡ u32_text a ++ rest → rest ≡ u32_text b ++ none → bytes ≡ u32_text a ++ u32_text b
two_filled bytes rest none a b eight first second = search (arith, nil_from_length, length-append, u32_length, append-nil)

pub two_came : (bytes rest none : List ℕ) (a b : ℕ) (x y : SourceState) → length bytes ≡ 8 → bytes ≡ u32_text a ++ rest → rest ≡ u32_text b ++ none
    → Gave 0 0 bytes x y → Gave 0 0 (u32_text a ++ u32_text b) x y
two_came bytes rest none a b x y eight first second came = subst (λ (t : List ℕ). Gave 0 0 t x y) (two_filled bytes rest none a b eight first second) came

pub three_came : (bytes rest rest' none : List ℕ) (a b c : ℕ) (x y : SourceState) → length bytes ≡ 12 → bytes ≡ u32_text a ++ rest → rest ≡ u32_text b ++ rest' → rest' ≡ u32_text c ++ none
    → Gave 0 0 bytes x y → Gave 0 0 (u32_text a ++ (u32_text b ++ u32_text c)) x y
three_came bytes rest rest' none a b c x y twelve first second third came = search (arith, length-append, u32_length, two_filled)

module _ (kind len m : ℕ) (fields : List ℕ) (long : length fields + m ≡ len) (x y z : SourceState) (came : Gave 0 0 fields x y) where
  pub list_came : (v : FrameValue) (list : List ℕ) → length list ≡ m → Gave 0 0 list y z → IsFrameOf v kind (fields ++ list) → BodyCame v kind len x z
  list_came v list count behind is =
      whole_came v kind len (fields ++ list) x z (omega (arith, length-append fields list, count, long)) (gave_more 0 0 fields list x y z came behind) is

  pub list_refused : (fault : FrameFault) (list : List ℕ) → length list ≡ m → Gave 0 0 list y z → BodyRefused fault kind (fields ++ list) → IsBodyRefused fault kind len x z
  list_refused fault list count behind refused =
      whole_refused fault kind len (fields ++ list) x z (omega (arith, length-append fields list, count, long)) (gave_more 0 0 fields list x y z came behind) refused

  -- less than the list came
  pub list_cut : (fault : FrameFault) → IsCutShort fault m y z → IsBodyRefused fault kind len x z
  list_cut fault cut = inl (cut_more fault m len fields x y z (omega (arith, long)) came cut)

  -- memory was requested after the fields
  pub list_late : (fault : FrameFault) → ((list : List ℕ) → length list ≡ m → IsListBegun kind (fields ++ list)) → WantsLate fault kind len x
  list_late fault begun memory body left count =
      let (list, rest, is) = consumes-known x.left y.left body fields left came.left in
      subst (IsListBegun kind) (sym is) (begun list (omega (arith, ap length is, length-append fields list, count, long)))

  -- less than the list came, or memory ran out
  pub list_stopped : (fault : FrameFault) → IsStopped fault m y z → ((list : List ℕ) → length list ≡ m → IsListBegun kind (fields ++ list)) → IsBodyRefused fault kind len x z
  list_stopped fault stopped begun = elim (cases_lt (length stopped.bytes) m) [
    | inl short ↦ list_cut fault (record { bytes = stopped.bytes; gave = stopped.gave; short = short; cause = stopped.cause })
    | inr all ↦ elim stopped.short [
      | inl memory ↦ whole memory (omega (arith, all, stopped.within))
      | inr short ↦ absurd (omega (arith, all, short))
    ]
  ]
    where
      whole : fault ≡ Memory → length stopped.bytes ≡ m → IsBodyRefused fault kind len x z
      whole memory count =
          let gave : Gave 0 0 stopped.bytes y z = subst (λ (f : FrameFault). Gave (failures_of f) (ends_of f) stopped.bytes y z) memory stopped.gave in
          subst (λ (f : FrameFault). IsBodyRefused f kind len x z) (sym memory) (list_refused Memory stopped.bytes count gave (begun stopped.bytes count))
