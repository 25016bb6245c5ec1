-- Joined texts of lawful frames can be read in one way only.
use Rattle.std.proofs.Common.{◌≡◌, ℕ, ◌<◌, ◌≤◌, List, [], ◌∷◌, ◌++◌, length, take, drop, refl, sym, ap, subst, ◌∙◌, ⊎_elim, append_assoc, append-nil, take-append-drop, arith}
use Rattle.std.proofs.lemmas.Bool.{cases_lt}
use Rattle.std.proofs.lemmas.Grind.{flat_map-append}
use Rattle.std.proofs.lemmas.List.{length-append, take_at, take-append-le, append_cancel_left}
use Rattle.frames.specs.FrameValue.{FrameValue}
use Rattle.frames.specs.FrameText.{text_of}
use Rattle.frames.specs.Refusals.{StreamRefused}
use Rattle.frames.specs.declared.fault.FrameFault.{FrameFault}
use Rattle.frames.proofs.OneText.{one_text}
use Rattle.frames.proofs.NeverRefused.{never_refused}
use Rattle.frames.specs.FrameStream.{texts_of, AreLawful, BeginsNone, AreFramesOf, IsOfStream}

pub texts-append : (fs gs : List FrameValue) → texts_of (fs ++ gs) ≡ texts_of fs ++ texts_of gs
texts-append fs gs = flat_map-append text_of fs gs

pub texts-one : (v : FrameValue) → texts_of (v ∷ []) ≡ text_of v
texts-one v = append-nil (text_of v)

pub lawful-append : (fs gs : List FrameValue) → AreLawful fs → AreLawful gs → AreLawful (fs ++ gs)
lawful-append [] gs first second = second
lawful-append (f ∷ fs) gs first second = (first.0, lawful-append fs gs first.1 second)

pub lawful_back : (fs gs : List FrameValue) → AreLawful (fs ++ gs) → AreLawful gs
lawful_back [] gs all = all
lawful_back (f ∷ fs) gs all = lawful_back fs gs all.1

pub text_some : (v : FrameValue) (more : List ℕ) → [] ≡ text_of v ++ more → ⊥
text_some v more none = cc

-- if a stream with the frames `gs` begins with the texts of the frames `fs`, then `gs` begins with `fs`
pub prefix_frames : (fs gs : List FrameValue) (tail rest : List ℕ) → AreLawful fs → AreLawful gs → BeginsNone rest → texts_of fs ++ tail ≡ texts_of gs ++ rest
    → (hs : List FrameValue) × (gs ≡ fs ++ hs) × (tail ≡ texts_of hs ++ rest)
prefix_frames [] gs tail rest first second none same = (gs, refl, same)
prefix_frames (f ∷ fs) [] tail rest first second none same =
    absurd (none f (texts_of fs ++ tail) first.0 (sym same ∙ append_assoc (text_of f) (texts_of fs) tail))
prefix_frames (f ∷ fs) (g ∷ gs) tail rest first second none same =
    let parts = one_text f g (texts_of fs ++ tail) (texts_of gs ++ rest) first.0 second.0 (sym (append_assoc (text_of f) (texts_of fs) tail) ∙ same ∙ append_assoc (text_of g) (texts_of gs) rest) in
    let (hs, is, left) = prefix_frames fs gs tail rest first.1 second.1 none parts.1 in
    (hs, ap (λ (x : FrameValue). x ∷ gs) (sym parts.0) ∙ ap (λ (t : List FrameValue). f ∷ t) is, left)

pub none_begins_none : BeginsNone []
none_begins_none v more lawful same = text_some v more same

-- the same if nothing follows the other frames
pub prefix_of_frames : (fs gs : List FrameValue) (tail : List ℕ) → AreLawful fs → AreLawful gs → texts_of fs ++ tail ≡ texts_of gs
    → (hs : List FrameValue) × (gs ≡ fs ++ hs) × (tail ≡ texts_of hs)
prefix_of_frames fs gs tail first second same =
    let (hs, is, left) = prefix_frames fs gs tail [] first second none_begins_none (same ∙ sym (append-nil (texts_of gs))) in
    (hs, is, left ∙ append-nil (texts_of hs))

-- the texts of lawful frames have exactly these frames
pub frames_of_texts : (fs : List FrameValue) → AreLawful fs → AreFramesOf (texts_of fs) fs
frames_of_texts fs lawful = record { lawful = lawful; rest = []; split = sym (append-nil (texts_of fs)); no_more = none_begins_none }

-- a stream has the same frames, however they are found
pub same_frames : (stream : List ℕ) (fs gs : List FrameValue) → AreFramesOf stream fs → AreFramesOf stream gs → gs ≡ fs
same_frames stream fs gs first second =
    let (hs, is, left) = prefix_frames fs gs first.rest second.rest first.lawful second.lawful second.no_more (sym first.split ∙ second.split) in
    is ∙ no_more_of hs second.rest first.rest (lawful_back fs hs (subst AreLawful is second.lawful)) first.no_more left where
      no_more_of : (hs : List FrameValue) (rest own : List ℕ) → AreLawful hs → BeginsNone own → own ≡ texts_of hs ++ rest → fs ++ hs ≡ fs
      no_more_of [] rest own lawful none left = append-nil fs
      no_more_of (h ∷ hs) rest own lawful none left = absurd (none h (texts_of hs ++ rest) lawful.0 (left ∙ append_assoc (text_of h) (texts_of hs) rest))

pub only_frames_of_texts : (fs gs : List FrameValue) → AreLawful fs → AreFramesOf (texts_of fs) gs → gs ≡ fs
only_frames_of_texts fs gs lawful are = same_frames (texts_of fs) fs gs (frames_of_texts fs lawful) are

-- a text that begins a stream and is no longer than a prefix of it begins that prefix
begins_prefix : (text prefix rest behind : List ℕ) → length text ≤ length prefix → prefix ++ rest ≡ text ++ behind
    → (prefix' : List ℕ) × (prefix ≡ text ++ prefix') × (prefix' ++ rest ≡ behind)
begins_prefix text prefix rest behind fits same =
    let n : ℕ = length text in
    let first : take n prefix ≡ text = sym (take-append-le n prefix rest fits) ∙ ap (take n) same ∙ take_at text behind n refl in
    let split : prefix ≡ text ++ drop n prefix = sym (take-append-drop n prefix) ∙ ap (λ (t : List ℕ). t ++ drop n prefix) first in
    (drop n prefix, split, append_cancel_left text (drop n prefix ++ rest) behind (sym (append_assoc text (drop n prefix) rest) ∙ ap (λ (t : List ℕ). t ++ rest) (sym split) ∙ same))

-- a prefix of a stream has the first of the stream's frames
pub prefix_frames_exist : (prefix rest behind : List ℕ) (all : List FrameValue) → AreLawful all → BeginsNone behind → prefix ++ rest ≡ texts_of all ++ behind
    → (some : List FrameValue) × (more : List FrameValue) × (all ≡ some ++ more) × AreFramesOf prefix some
prefix_frames_exist prefix rest behind [] lawful none same = (
  [],
  [],
  refl,
  record {
    lawful = tt;
    rest = prefix;
    split = refl;
    no_more = λ v m is at. none v (m ++ rest) is (sym same ∙ ap (λ (t : List ℕ). t ++ rest) at ∙ append_assoc (text_of v) m rest);
  },
)
prefix_frames_exist prefix rest behind (g ∷ gs) lawful none same =
    let split : prefix ++ rest ≡ text_of g ++ (texts_of gs ++ behind) = same ∙ append_assoc (text_of g) (texts_of gs) behind in
    ⊎_elim
    (λ (short : length prefix < length (text_of g)).
    let nothing : AreFramesOf prefix [] = record {
      lawful = tt;
      rest = prefix;
      split = refl;
      no_more = λ v m is at.
          let one = one_text v g (m ++ rest) (texts_of gs ++ behind) is lawful.0 (sym (append_assoc (text_of v) m rest) ∙ ap (λ (t : List ℕ). t ++ rest) (sym at) ∙ split) in
          omega (arith, short, ap length at, length-append (text_of v) m, ap (λ (f : FrameValue). length (text_of f)) one.0);
    } in
    ([], g ∷ gs, refl, nothing))
    (λ (fits : length (text_of g) ≤ length prefix).
    let (prefix', at, left) = begins_prefix (text_of g) prefix rest (texts_of gs ++ behind) fits split in
    let (some, more, is, are) = prefix_frames_exist prefix' rest behind gs lawful.1 none left in
    let whole : AreFramesOf prefix (g ∷ some) = record {
      lawful = (lawful.0, are.lawful);
      rest = are.rest;
      split = at ∙ ap (λ (t : List ℕ). text_of g ++ t) are.split ∙ sym (append_assoc (text_of g) (texts_of some) are.rest);
      no_more = are.no_more;
    } in
    (g ∷ some, more, ap (λ (t : List FrameValue). g ∷ t) is, whole))
    (cases_lt (length prefix) (length (text_of g)))

pub prefix_has_prefix_frames : (prefix rest : List ℕ) (all : List FrameValue) → AreFramesOf (prefix ++ rest) all
    → (some : List FrameValue) × (more : List FrameValue) × (all ≡ some ++ more) × AreFramesOf prefix some
prefix_has_prefix_frames prefix rest all are = prefix_frames_exist prefix rest are.rest all are.lawful are.no_more are.split

-- bytes that a reader rejects, without a failed read or a lack of memory, begin with no lawful frame
pub refused_begins_none : (fault : FrameFault) (bytes : List ℕ) → IsOfStream fault → StreamRefused fault bytes → BeginsNone bytes
refused_begins_none fault bytes of_stream refused v m is at = never_refused v m fault is of_stream (subst (StreamRefused fault) at refused)
