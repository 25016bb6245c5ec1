-- A session, frame by frame.
use Rattle.std.proofs.Common.{◌≡◌, ℕ, ◌+◌, List, [], ◌∷◌, ◌++◌, length, drop, sym, ap, subst, ◌∙◌, append_assoc, arith}
use Rattle.std.proofs.lemmas.List.{length-append, drop_at}
use Rattle.frames.specs.FrameValue.{FrameValue}
use Rattle.frames.specs.declared.frame.TheConstants.{VERSION}
use Rattle.frames.specs.FrameText.{text_of}
use Rattle.frames.specs.Lawful.{IsLawful}
use Rattle.frames.specs.FrameStream.{texts_of, BeginsNone}
use Rattle.frames.proofs.FrameStreams.{texts-append, texts-one, lawful-append}
use Rattle.worker_replies.specs.Serving.{Shelf, empty_shelf, shelf_with, MayFollow, AreReplies, Serves}
use Rattle.worker_replies.specs.Session.{InSession}
use Rattle.worker_replies.proofs.Versions.{this_version, all_heard}
use Rattle.worker_replies.proofs.Replying.{replies_more, shelf_after-append}

pub session_left : (worker : ℕ) (shelf : Shelf) (input out : List ℕ) (heard : ℕ) (session : InSession worker shelf input out heard) → drop heard input ≡ session.rest
session_left worker shelf input out heard session = search (arith, drop_at)

pub session_hears : (worker : ℕ) (shelf shelf' : Shelf) (input out out' left : List ℕ) (heard heard' : ℕ) (v : FrameValue) (now : List FrameValue)
    → IsLawful v → drop heard input ≡ text_of v ++ left → heard' ≡ heard + length (text_of v) → shelf' ≡ shelf_with shelf v → MayFollow shelf v now
    → out' ≡ out ++ texts_of now → InSession worker shelf input out heard → InSession worker shelf' input out' heard'
session_hears worker shelf shelf' input out out' left heard heard' v now lawful next count kept may wrote session =
    let frames : List FrameValue = session.frames ++ v ∷ [] in
    let joined : texts_of frames ≡ texts_of session.frames ++ text_of v = texts-append session.frames (v ∷ []) ∙ ap (λ (t : List ℕ). texts_of session.frames ++ t) (texts-one v) in
    let behind : session.rest ≡ text_of v ++ left = sym (session_left worker shelf input out heard session) ∙ next in
    record {
      frames = frames;
      replies = session.replies ++ now;
      rest = left;
      lawful = lawful-append session.frames (v ∷ []) session.lawful (lawful, tt);
      came = session.came ∙ ap (λ (t : List ℕ). texts_of session.frames ++ t) behind ∙ sym (append_assoc (texts_of session.frames) (text_of v) left) ∙ ap (λ (t : List ℕ). t ++ left) (sym joined);
      heard_is = count ∙ ap (λ (n : ℕ). n + length (text_of v)) session.heard_is ∙ sym (ap length joined ∙ length-append (texts_of session.frames) (text_of v));
      shelf_is = kept ∙ ap (λ (s : Shelf). shelf_with s v) session.shelf_is ∙ sym (shelf_after-append empty_shelf session.frames (v ∷ []));
      answered = replies_more session.frames session.replies now v session.answered (subst (λ (s : Shelf). MayFollow s v now) session.shelf_is may);
      written = search (arith, append_assoc, texts-append);
    }

-- a session that read all the frames that came wrote what it may write
pub session_serves : (worker : ℕ) (shelf : Shelf) (input out : List ℕ) (heard : ℕ) → InSession worker shelf input out heard → BeginsNone (drop heard input) → Serves VERSION worker input out
session_serves worker shelf input out heard session none = record {
  known = this_version;
  frames = session.frames;
  replies = session.replies;
  came = record { lawful = session.lawful; rest = session.rest; split = session.came; no_more = subst BeginsNone (session_left worker shelf input out heard session) none };
  answered = subst (λ (fs : List FrameValue). AreReplies empty_shelf fs session.replies) (sym (all_heard session.frames session.lawful)) session.answered;
  written = session.written;
}
