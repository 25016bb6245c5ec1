-- What two calls on a stream do together, and what a call does to a stream whose state the contracts show.
use Rattle.std.proofs.Common.{◌≡◌, ℕ, ◌+◌, ◌-◌, ◌<◌, ◌≤◌, List, [], ◌++◌, length, take, drop, Some, None, IfSome, refl, sym, ap, subst, ◌∙◌, arith, append-nil, length-append, length-take-le}
use Rattle.std.proofs.Common.{suc, zero}
use Rattle.std.proofs.Math.Seq.{take-add, take-append-add}
use Rattle.std.proofs.lemmas.List.{nil_from_length, take-append-le, take_rest}
use Rattle.std.specs.Prelude.{Option}
use Rattle.std.specs.Io.KnownBytes.{Appends, Consumes}
use Rattle.std.proofs.KnownBytes.{Appends-nil, Appends-trans, Consumes-nil, Consumes-trans}
use Rattle.byte_streams.specs.Streams.{RisesBy, SourceState, Gave, HadNoFailure, SinkState, Took, WentOut, HadNoSetback}
use borrow.Rule.Slice.PartMut.{put_mid, post_of}

-- ---- counts

pub rises-none : (a : Option ℕ) → RisesBy 0 a a
rises-none None = tt
rises-none (Some n) = omega arith

pub rises-then : (m n : ℕ) (a b c : Option ℕ) → RisesBy m a b → RisesBy n b c → RisesBy (m + n) a c
rises-then m n None b c first second = tt
rises-then m n (Some x) None c first second = absurd first
rises-then m n (Some x) (Some y) None first second = absurd second
rises-then m n (Some x) (Some y) (Some z) first second = omega arith

-- a count that is shown and is the same before and after didn't rise
pub rises-same : (m n : ℕ) (a b : Option ℕ) → a ≡ Some n → b ≡ Some n → RisesBy m a b → m ≡ 0
rises-same m n None b before after rose = cc
rises-same m n (Some x) None before after rose = absurd rose
rises-same m n (Some x) (Some y) before after rose =
    let from : x ≡ n = cc in
    let to : y ≡ n = cc in
    omega arith

-- ---- sources

-- if the source shows its bytes, those that it gave were the first of them
pub consumes-known : (a b : Option (List ℕ)) (xs bs : List ℕ) → a ≡ Some xs → Consumes a b bs → (ys : List ℕ) × (b ≡ Some ys) × (xs ≡ bs ++ ys)
consumes-known None b xs bs known came = cc
consumes-known (Some zs) None xs bs known came = absurd came
consumes-known (Some zs) (Some ys) xs bs known came = let same : zs ≡ xs = cc in (ys, refl, sym same ∙ came)

pub gave_nothing : (s : SourceState) → Gave 0 0 [] s s
gave_nothing s = record {
  left = Consumes-nil s.left;
  given = λ _. Appends-nil s.given;
  failures = rises-none s.failures;
  ends = rises-none s.ends;
  at_end = λ ended. absurd (omega arith);
}

-- two calls, at least one of which found the end of what was left
ends_together : (e f : ℕ) (a b : Option (List ℕ)) (xs ys : List ℕ) → Consumes a b xs → (0 < e → IfSome a (λ all. all ≡ xs)) → (0 < f → IfSome b (λ all. all ≡ ys))
    → (c : Option (List ℕ)) → Consumes b c ys → 0 < e + f → IfSome a (λ all. all ≡ xs ++ ys)
ends_together e f None b xs ys came first second c more ended = tt
ends_together e f (Some all) None xs ys came first second c more ended = absurd came
ends_together e f (Some all) (Some rest) xs ys came first second None more ended = absurd more
ends_together zero f (Some all) (Some rest) xs ys came first second (Some left) more ended =
    came ∙ ap (λ l. xs ++ l) (second (omega arith))
ends_together (suc e) f (Some all) (Some rest) xs ys came first second (Some left) more ended =
    let over : length rest ≡ 0 = omega (arith, ap length came, ap length (first (omega arith)), length-append xs rest) in
    let none : length ys ≡ 0 = omega (arith, ap length more, length-append ys left) in
    first (omega arith) ∙ sym (append-nil xs) ∙ ap (λ l. xs ++ l) (sym (nil_from_length ys none))

pub gave_then : (m e n f : ℕ) (xs ys : List ℕ) (s t u : SourceState) → Gave m e xs s t → Gave n f ys t u → Gave (m + n) (e + f) (xs ++ ys) s u
gave_then m e n f xs ys s t u first second = record {
  left = Consumes-trans s.left t.left u.left xs ys first.left second.left;
  given = λ none. Appends-trans s.given t.given u.given xs ys (first.given (omega arith)) (second.given (omega arith));
  failures = rises-then m n s.failures t.failures u.failures first.failures second.failures;
  ends = rises-then e f s.ends t.ends u.ends first.ends second.ends;
  at_end = ends_together e f s.left t.left xs ys first.left first.at_end second.at_end u.left second.left;
}

-- a call that gave some bytes, and then any call
pub gave_more : (m e : ℕ) (xs ys : List ℕ) (s t u : SourceState) → Gave 0 0 xs s t → Gave m e ys t u → Gave m e (xs ++ ys) s u
gave_more m e xs ys s t u first second =
    let failed : 0 + m ≡ m = omega arith in
    let ended : 0 + e ≡ e = omega arith in
    subst (λ k. Gave k e (xs ++ ys) s u) failed (subst (λ k. Gave (0 + m) k (xs ++ ys) s u) ended (gave_then 0 0 m e xs ys s t u first second))

-- if the source shows its bytes, those that it gave were the first of them
pub gave_known : (m e : ℕ) (xs bs : List ℕ) (s t : SourceState) → s.left ≡ Some xs → Gave m e bs s t → (ys : List ℕ) × (t.left ≡ Some ys) × (xs ≡ bs ++ ys)
gave_known m e xs bs s t known gave = consumes-known s.left t.left xs bs known gave.left

-- if it also found the end, it gave all that it had
pub gave_to_end : (m e : ℕ) (xs bs : List ℕ) (s t : SourceState) → s.left ≡ Some xs → 0 < e → Gave m e bs s t → xs ≡ bs
gave_to_end m e xs bs s t known ended gave = subst (λ left. IfSome left (λ all. all ≡ bs)) known (gave.at_end ended)

-- a source that shows its failures and had none
pub gave_unfailing : (m e : ℕ) (bs : List ℕ) (s t : SourceState) → HadNoFailure s t → Gave m e bs s t → m ≡ 0
gave_unfailing m e bs s t (n, before, after) gave = rises-same m n s.failures t.failures before after gave.failures

-- what a read of `buf[at..]` gave comes after the first `at` bytes of the buffer
take-put_mid_more : (at k n : ℕ) (buf part : List ℕ) → at ≤ length buf → n ≤ length part
    → take (at + n) (put_mid at k buf part) ≡ take at buf ++ take n part
take-put_mid_more at k n buf part within fits =
    ap (λ m. take (m + n) (put_mid at k buf part)) (sym (length-take-le at buf within))
    ∙ take-append-add (take at buf) (part ++ post_of at k buf) n
    ∙ ap (λ rest. take at buf ++ rest) (take-append-le n part (post_of at k buf) fits)

-- the first `at` bytes of the buffer came, and then the n bytes that a read of `buf[at..]` gave
pub gave_into_rest : (m e : ℕ) (s t u : SourceState) (at k n : ℕ) (buf part : List ℕ) → at ≤ length buf → n ≤ length part
    → Gave 0 0 (take at buf) s t → Gave m e (take n part) t u → Gave m e (take (at + n) (put_mid at k buf part)) s u
gave_into_rest m e s t u at k n buf part within fits first second =
    subst (λ bs. Gave m e bs s u) (sym (take-put_mid_more at k n buf part within fits)) (gave_more m e (take at buf) (take n part) s t u first second)

-- ---- sinks

pub took_nothing : (s : SinkState) → Took 0 [] s s
took_nothing s = record { held = Appends-nil s.held; setbacks = rises-none s.setbacks }

pub took_then : (m n : ℕ) (xs ys : List ℕ) (s t u : SinkState) → Took m xs s t → Took n ys t u → Took (m + n) (xs ++ ys) s u
took_then m n xs ys s t u first second = record {
  held = Appends-trans s.held t.held u.held xs ys first.held second.held;
  setbacks = rises-then m n s.setbacks t.setbacks u.setbacks first.setbacks second.setbacks;
}

-- a call that took some bytes, and then any call
pub took_more : (m : ℕ) (xs ys : List ℕ) (s t u : SinkState) → Took 0 xs s t → Took m ys t u → Took m (xs ++ ys) s u
took_more m xs ys s t u first second =
    let hindered : 0 + m ≡ m = omega arith in
    subst (λ k. Took k (xs ++ ys) s u) hindered (took_then 0 m xs ys s t u first second)

-- a call that took no byte, after one that took some
pub took_no_more : (m : ℕ) (xs : List ℕ) (s t u : SinkState) → Took 0 xs s t → Took m [] t u → Took m xs s u
took_no_more m xs s t u first second = subst (λ bs. Took m bs s u) (append-nil xs) (took_more m xs [] s t u first second)

-- a sink that shows its bytes has what it took after what it had
pub appends-known : (a b : Option (List ℕ)) (xs bs : List ℕ) → a ≡ Some xs → Appends a b bs → b ≡ Some (xs ++ bs)
appends-known None b xs bs known out = cc
appends-known (Some zs) None xs bs known out = absurd out
appends-known (Some zs) (Some ys) xs bs known out = let same : zs ≡ xs = cc in ap (λ l. Some l) (out ∙ ap (λ l. l ++ bs) same)

pub took_known : (m : ℕ) (xs bs : List ℕ) (s t : SinkState) → s.held ≡ Some xs → Took m bs s t → t.held ≡ Some (xs ++ bs)
took_known m xs bs s t known took = appends-known s.held t.held xs bs known took.held

-- a sink that shows its setbacks and had none
pub took_unhindered : (m : ℕ) (bs : List ℕ) (s t : SinkState) → HadNoSetback s t → Took m bs s t → m ≡ 0
took_unhindered m bs s t (n, before, after) took = rises-same m n s.setbacks t.setbacks before after took.setbacks

-- the first `at` bytes of the field were written, and then n of those that a write of `field[at..]` was given
pub took_from_rest : (m n at : ℕ) (field : List ℕ) (s t u : SinkState) → Took 0 (take at field) s t
    → Took m (take n (take (length field - at) (drop at field))) t u → Took m (take (at + n) field) s u
took_from_rest m n at field s t u first second =
    let next : Took m (take n (drop at field)) t u = rw take_rest at second in
    subst (λ bs. Took m bs s u) (sym (take-add at n field)) (took_more m (take at field) (take n (drop at field)) s t u first next)

-- ---- partly written texts

-- a field after the text that was written before it
pub took_then_went_out : (written : ℕ) (text field : List ℕ) (s t u : SinkState) → Took 0 text s t → WentOut written field t u
    → WentOut (length text + written) (text ++ field) s u
took_then_went_out written text field s t u first part = record {
  within = omega (arith, length-append text field, part.within);
  took = subst (λ bs. Took 1 bs s u) (sym (take-append-add text field written)) (took_more 1 text (take written field) s t u first part.took);
}

-- a partly written text, followed by a text that wasn't written
pub went_out_followed : (written : ℕ) (text rest : List ℕ) (s t : SinkState) → WentOut written text s t → WentOut written (text ++ rest) s t
went_out_followed written text rest s t part = record {
  within = omega (arith, length-append text rest, part.within);
  took = subst (λ bs. Took 1 bs s t) (sym (take-append-le written text rest part.within)) part.took;
}
