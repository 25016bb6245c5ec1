-- Bytes that are rejected, whatever follows them.
use Rattle.std.proofs.Common.{◌≡◌, ℕ, ◌<◌, ◌≤◌, ◌⊎◌, List, ◌++◌, take, drop, Option, Some, None, IfSome, sym, ap, subst, ◌∙◌, arith, inl, inr}
use Rattle.std.specs.Int.{w32, from_be_bytes}
use Rattle.std.specs.Io.KnownBytes.{Consumes}
use Rattle.std.proofs.lemmas.Bool.{cases_lt}
use Rattle.std.proofs.lemmas.List.{length-append, get_or_append_left, drop-append-le, take-append-le, length-drop}
use Rattle.frames.specs.Refusals.{IsPossible, HeadRefused, BodyRefused, HasHead, HasGoodHead, HasBody, StreamRefused, kind_at, length_at, body_at}
use Rattle.frames.specs.FrameStream.{IsOfStream}
use Rattle.frames.specs.ReadFault.{ends_of, RefusalIsOfTheStream}
use Rattle.frames.specs.declared.fault.FrameFault.{FrameFault}
use Rattle.frames.specs.declared.fault.FrameFault.TheVariants.{BadKind, BadLength, BadField, BadVersion, Ended, Torn, Device, Memory}

module _ (bytes rest : List ℕ) where
  kind_same : HasHead bytes → kind_at (bytes ++ rest) ≡ kind_at bytes
  kind_same head = get_or_append_left bytes rest 0 0 (omega arith)

  length_same : HasHead bytes → length_at (bytes ++ rest) ≡ length_at bytes
  length_same head = search (arith, drop-append-le, take-append-le, length-drop)

  longer : HasHead bytes → HasHead (bytes ++ rest)
  longer head = omega (arith, length-append bytes rest)

  good_same : HasGoodHead bytes → HasGoodHead (bytes ++ rest)
  good_same good = (longer good.0, subst (IsPossible (kind_at (bytes ++ rest))) (sym (length_same good.0)) (subst (λ (k : ℕ). IsPossible k (length_at bytes)) (sym (kind_same good.0)) good.1))

  body_same : HasBody bytes → body_at (bytes ++ rest) ≡ body_at bytes
  body_same body = search (arith, length_same, drop-append-le, take-append-le, length-drop)

  has_body : HasBody bytes → HasBody (bytes ++ rest)
  has_body body = (good_same body.0, omega (arith, body.1, length_same body.0.0, length-append bytes rest))

  head_more : (fault : FrameFault) → HasHead bytes → HeadRefused fault (kind_at bytes) (length_at bytes) → HeadRefused fault (kind_at (bytes ++ rest)) (length_at (bytes ++ rest))
  head_more fault head refused = search (arith, length_same, kind_same)

  body_more : (fault : FrameFault) → HasBody bytes → BodyRefused fault (kind_at bytes) (body_at bytes) → BodyRefused fault (kind_at (bytes ++ rest)) (body_at (bytes ++ rest))
  body_more fault body refused = search (arith, body_same, kind_same)

-- a stream that begins with a rejected head or frame is rejected
pub refused_more : (fault : FrameFault) (bytes rest : List ℕ) → IsOfStream fault → ends_of fault ≡ 0 → StreamRefused fault bytes → StreamRefused fault (bytes ++ rest)
refused_more BadKind bytes rest of_stream whole refused = (longer bytes rest refused.0, head_more bytes rest BadKind refused.0 refused.1)
refused_more BadLength bytes rest of_stream whole refused = (longer bytes rest refused.0, head_more bytes rest BadLength refused.0 refused.1)
refused_more BadField bytes rest of_stream whole refused = (has_body bytes rest refused.0, body_more bytes rest BadField refused.0 refused.1)
refused_more BadVersion bytes rest of_stream whole refused = (has_body bytes rest refused.0, body_more bytes rest BadVersion refused.0 refused.1)
refused_more Ended bytes rest of_stream whole refused = absurd (omega (arith, whole))
refused_more Torn bytes rest of_stream whole refused = absurd (omega (arith, whole))
refused_more Device bytes rest of_stream whole refused = absurd of_stream
refused_more Memory bytes rest of_stream whole refused = absurd of_stream

of_the_stream : (fault : FrameFault) (a b : Option (List ℕ)) (bytes : List ℕ) → IsOfStream fault → Consumes a b bytes → (0 < ends_of fault → IfSome a (λ all. all ≡ bytes))
    → StreamRefused fault bytes → IfSome a (StreamRefused fault)
of_the_stream a1 a2 a3 a4 a5 a6 a7 a8 = search (arith, cases_lt, refused_more)

pub refusal_of_the_stream : RefusalIsOfTheStream
refusal_of_the_stream fault before after of_stream is = of_the_stream fault before.left after.left is.bytes of_stream is.gave.left is.gave.at_end is.refused
