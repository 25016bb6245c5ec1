-- Bad bytes, whatever follows them.
use Rattle.std.proofs.Common.{◌≡◌, ℕ, ◌≤◌, List, [], ◌∷◌, ◌++◌, length, ap, arith}
use Rattle.std.proofs.lemmas.List.{length-append}
use Rattle.frames.specs.FrameValue.{FrameValue}
use Rattle.frames.specs.Refusals.{StreamRefused}
use Rattle.frames.specs.declared.fault.FrameFault.{FrameFault}
use Rattle.frames.specs.FrameStream.{texts_of, AreLawful, BeginsNone, IsOfStream}
use Rattle.frames.specs.ReadFault.{ends_of}
use Rattle.frames.proofs.FrameStreams.{refused_begins_none}
use Rattle.frames.proofs.Refusing.{refused_more}
use Rattle.wires.specs.Causes.{IsGarble, IsBad}

-- a bad head or body was whole, so no read failed
garble_of_stream : (fault : FrameFault) → IsGarble fault → IsOfStream fault × (ends_of fault ≡ 0)
garble_of_stream a1 a2 = search arith

refused_long : (fault : FrameFault) (bytes : List ℕ) → IsGarble fault → StreamRefused fault bytes → 5 ≤ length bytes
refused_long a1 a2 a3 a4 = search arith

pub bad_more : (bytes rest : List ℕ) → IsBad bytes → IsBad (bytes ++ rest)
bad_more bytes rest bad = search (arith, garble_of_stream, refused_more)

pub bad_begins_none : (bytes : List ℕ) → IsBad bytes → BeginsNone bytes
bad_begins_none bytes bad = refused_begins_none bad.0 bytes (garble_of_stream bad.0 bad.1).0 bad.2

-- the texts of lawful frames begin with no bad bytes
pub bad_never : (bytes rest : List ℕ) (frames : List FrameValue) → IsBad bytes → AreLawful frames → bytes ++ rest ≡ texts_of frames → ⊥
bad_never bytes rest [] bad lawful same =
    omega (arith, refused_long bad.0 bytes bad.1 bad.2, length-append bytes rest, ap length same)
bad_never bytes rest (v ∷ frames) bad lawful same = bad_begins_none (bytes ++ rest) (bad_more bytes rest bad) v (texts_of frames) lawful.0 same
