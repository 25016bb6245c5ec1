-- The frames that a worker of a version reads.
use Rattle.std.proofs.Common.{◌≡◌, ℕ, Bool, true, false, cond, List, [], ◌∷◌, ◌++◌, refl, sym, ap, ◌∙◌, lit≤, le-leb, arith}
use Rattle.std.specs.Prelude.{nat_le}
use Rattle.std.proofs.lemmas.List.Sums.{take_while-cons}
use Rattle.frames.specs.FrameValue.{FrameValue}
use Rattle.frames.specs.declared.frame.TheConstants.{VERSION}
use Rattle.frames.specs.FrameText.{version_of}
use Rattle.frames.specs.Lawful.{IsVersion, IsLawful}
use Rattle.frames.specs.FrameStream.{AreLawful}
use Rattle.worker_replies.specs.Serving.{heard_by}

pub this_version : IsVersion VERSION
this_version = record { from_first = lit≤ tt; to_this = lit≤ tt }

has_each : (v : FrameValue) → IsLawful v → nat_le (version_of v) VERSION ≡ true
has_each a1 a2 = search (arith, le-leb)

pub all_heard : (frames : List FrameValue) → AreLawful frames → heard_by VERSION frames ≡ frames
all_heard [] lawful = refl
all_heard (v ∷ frames) lawful =
    take_while-cons (λ (f : FrameValue). nat_le (version_of f) VERSION) v frames
    ∙ ap (λ (b : Bool). cond b (v ∷ heard_by VERSION frames) []) (has_each v lawful.0)
    ∙ ap (λ (fs : List FrameValue). v ∷ fs) (all_heard frames lawful.1)

-- the next frame is read if the version has it, and otherwise no more are
heard_next : (version : ℕ) (v : FrameValue) (frames : List FrameValue) → heard_by version (v ∷ frames) ≡ cond (nat_le (version_of v) version) (v ∷ heard_by version frames) []
heard_next version v frames = take_while-cons (λ (f : FrameValue). nat_le (version_of f) version) v frames

-- the frames that are read of a list begin with those that are read of a prefix of it
pub heard_more : (version : ℕ) (some more : List FrameValue) → (tail : List FrameValue) × (heard_by version (some ++ more) ≡ heard_by version some ++ tail)
heard_more version [] more = (heard_by version more, refl)
heard_more version (v ∷ some) more =
    let (tail, is) = heard_more version some more in
    let (late, split) = go (nat_le (version_of v) version) tail is in
    (late, heard_next version v (some ++ more) ∙ split ∙ ap (λ (fs : List FrameValue). fs ++ late) (sym (heard_next version v some)))
  where
    go : (has : Bool) (tail : List FrameValue) → heard_by version (some ++ more) ≡ heard_by version some ++ tail
        → (late : List FrameValue) × (cond has (v ∷ heard_by version (some ++ more)) [] ≡ cond has (v ∷ heard_by version some) [] ++ late)
    go true tail is = (tail, ap (λ (fs : List FrameValue). v ∷ fs) is)
    go false tail is = ([], refl)

-- if all frames are lawful, so are those that are read
pub heard_lawful : (version : ℕ) (frames : List FrameValue) → AreLawful frames → AreLawful (heard_by version frames)
heard_lawful version [] lawful = tt
heard_lawful version (v ∷ frames) lawful = search (arith, heard_next, cond, heard_lawful version frames lawful.1)
