-- A session over a source and a sink, frame by frame.
use Rattle.std.proofs.Common.{◌≡◌, ◌≢◌, ℕ, ◌+◌, ◌<◌, List, [], ◌∷◌, ◌++◌, length, take, refl, sym, ap, subst, ◌∙◌, inl, inr, append_assoc, append-nil, arith}
use Rattle.std.specs.Prelude.{Result, Ok, Err, IfOk, IfErr, OnOk, OnErr}
use Rattle.std.proofs.lemmas.List.{length-append}
use Rattle.std.proofs.Math.Seq.{take-append-add}
use Rattle.byte_streams.specs.Streams.{SourceState, Gave, SinkState, Took}
use Rattle.byte_streams.proofs.Streaming.{gave_more, took_more}
use Rattle.frames.specs.FrameValue.{FrameValue, HelloFrame, ShardFrame, AskFrame, AnswerFrame, FaultFrame}
use Rattle.frames.specs.declared.frame.TheConstants.{VERSION}
use Rattle.frames.specs.FrameText.{text_of}
use Rattle.frames.specs.Lawful.{IsLawful}
use Rattle.frames.specs.FrameStream.{texts_of, AreLawful}
use Rattle.frames.specs.ReadFault.{IsReadRefused, failures_of, ends_of}
use Rattle.frames.specs.declared.fault.FrameFault.{FrameFault}
use Rattle.frames.specs.declared.fault.FrameFault.TheVariants.{Ended}
use Rattle.frames.proofs.FrameStreams.{texts-append, texts-one, lawful-append, frames_of_texts}
use Rattle.worker_engine.specs.declared.session.Served.{Served}
use Rattle.worker_engine.specs.declared.session.ServeFault.{ServeFault}
use Rattle.worker_engine.specs.declared.session.ServeFault.TheVariants.{Read, Write, Memory, TooMany}
use Rattle.worker_engine.specs.declared.session.Written.{Written}
use Rattle.worker_engine.specs.declared.session.Written.TheVariants.{AFault}
use Rattle.worker_replies.specs.Serving.{Shelf, empty_shelf, shelf_with, shelf_after, MayFollow, AreReplies, IsShardFrame}
use Rattle.worker_engine.specs.Served.{answers_in, faults_in, HeardFrames, ServesToEnd, EndsAtRead, EndsAtWrite, EndsAtMemory, EndsAtLimit, EndsBy, IsSortOf, CountsReplies, HearsNext}
use Rattle.worker_engine.specs.Served.{HearsNone, WroteFor, CutOff, Ungreeted}
use Rattle.worker_replies.proofs.Versions.{this_version, all_heard}
use Rattle.worker_replies.proofs.Replying.{replies_more, shelf_after-append}

-- whole lawful frames were read, and what is owed for them was written
pub record SoFar (worker : ℕ) (shelf : Shelf) (served : Served) (source source' : SourceState) (sink sink' : SinkState) : Type 0 where
  pub frames : List FrameValue
  pub replies : List FrameValue
  pub lawful : AreLawful frames
  pub shelf_is : shelf ≡ shelf_after empty_shelf frames
  pub answered : AreReplies empty_shelf frames replies
  pub frames_are : served.frames ≡ length frames
  pub answers_are : served.answers ≡ answers_in replies
  pub faults_are : served.faults ≡ faults_in replies
  pub gave : Gave 0 0 (texts_of frames) source source'
  pub took : Took 0 (text_of (HelloFrame VERSION worker) ++ texts_of replies) sink sink'

-- frames and replies to them, as a session owes them
abbrev heard_of : (worker : ℕ) (frames replies : List FrameValue) → AreLawful frames → AreReplies empty_shelf frames replies → HeardFrames worker
heard_of worker frames replies lawful answered = record {
  frames = frames;
  lawful = lawful;
  out = text_of (HelloFrame VERSION worker) ++ texts_of replies;
  serves = record {
    known = this_version;
    frames = frames;
    replies = replies;
    came = frames_of_texts frames lawful;
    answered = subst (λ (fs : List FrameValue). AreReplies empty_shelf fs replies) (sym (all_heard frames lawful)) answered;
    written = refl;
  };
}

pub answers-append : (fs gs : List FrameValue) → answers_in (fs ++ gs) ≡ answers_in fs + answers_in gs
answers-append [] gs = omega arith
answers-append (f ∷ fs) gs = omega (arith, answers-append fs gs)

pub faults-append : (fs gs : List FrameValue) → faults_in (fs ++ gs) ≡ faults_in fs + faults_in gs
faults-append [] gs = omega arith
faults-append (f ∷ fs) gs = omega (arith, faults-append fs gs)

-- another frame, with the replies to it
answered_more : (frames before now : List FrameValue) (shelf : Shelf) (v : FrameValue) → AreReplies empty_shelf frames before → shelf ≡ shelf_after empty_shelf frames
    → MayFollow shelf v now → AreReplies empty_shelf (frames ++ v ∷ []) (before ++ now)
answered_more frames before now shelf v answered shelf_is may = replies_more frames before now v answered (subst (λ (s : Shelf). MayFollow s v now) shelf_is may)

-- ---- from frame to frame

module _ (worker : ℕ) (source source' source'' : SourceState) (sink sink' sink'' : SinkState) where
  pub ends_well : (shelf : Shelf) (served : Served) → SoFar worker shelf served source source' sink sink' → IsReadRefused Ended source' source'' → ServesToEnd worker served source source'' sink sink'
  ends_well shelf served so_far refused = record {
    heard = heard_of worker so_far.frames so_far.replies so_far.lawful so_far.answered;
    counts = record { frames = so_far.frames_are; answers = so_far.answers_are; faults = so_far.faults_are };
    gave = subst (λ (bytes : List ℕ). Gave 0 1 bytes source source'') (ap (λ (t : List ℕ). texts_of so_far.frames ++ t) refused.refused ∙ append-nil (texts_of so_far.frames))
        (gave_more 0 1 (texts_of so_far.frames) refused.bytes source source' source'' so_far.gave refused.gave);
    took = so_far.took;
  }

  pub ends_at_read : (shelf : Shelf) (served : Served) (fault : FrameFault) → fault ≢ Ended → SoFar worker shelf served source source' sink sink' → IsReadRefused fault source' source''
      → EndsAtRead worker fault source source'' sink sink'
  ends_at_read shelf served fault inside so_far refused = record {
    heard = heard_of worker so_far.frames so_far.replies so_far.lawful so_far.answered;
    bytes = refused.bytes;
    inside = inside;
    refused = refused.refused;
    gave = gave_more (failures_of fault) (ends_of fault) (texts_of so_far.frames) refused.bytes source source' source'' so_far.gave refused.gave;
    took = so_far.took;
  }

  pub ends_at_limit : (shelf : Shelf) (served : Served) (limit : ℕ) → served.frames ≡ limit → SoFar worker shelf served source source' sink sink' → EndsAtLimit worker limit source source' sink sink'
  ends_at_limit shelf served limit all so_far = record {
    heard = heard_of worker so_far.frames so_far.replies so_far.lawful so_far.answered;
    all = sym so_far.frames_are ∙ all;
    gave = so_far.gave;
    took = so_far.took;
  }

  gave_frame : (frames : List FrameValue) (v : FrameValue) → Gave 0 0 (texts_of frames) source source' → Gave 0 0 (text_of v) source' source'' → Gave 0 0 (texts_of (frames ++ v ∷ [])) source source''
  gave_frame frames v first second = search (arith, texts-one, texts-append, gave_more)

  -- what is owed together with other replies
  more_owed : (replies now : List FrameValue) → (text_of (HelloFrame VERSION worker) ++ texts_of replies) ++ texts_of now ≡ text_of (HelloFrame VERSION worker) ++ texts_of (replies ++ now)
  more_owed replies now = append_assoc (text_of (HelloFrame VERSION worker)) (texts_of replies) (texts_of now)
      ∙ ap (λ (t : List ℕ). text_of (HelloFrame VERSION worker) ++ t) (sym (texts-append replies now))

  -- another frame came and was taken
  pub so_far_more : (shelf shelf' : Shelf) (served served' : Served) (replies : List FrameValue) (written : Written)
      → SoFar worker shelf served source source' sink sink' → HearsNext replies shelf shelf' source' source'' → WroteFor replies written sink' sink''
      → served'.frames ≡ served.frames + 1 → CountsReplies written served served' → SoFar worker shelf' served' source source'' sink sink''
  so_far_more shelf shelf' served served' replies written so_far hears wrote counted replied = record {
    frames = so_far.frames ++ hears.v ∷ [];
    replies = so_far.replies ++ replies;
    lawful = lawful-append so_far.frames (hears.v ∷ []) so_far.lawful (hears.lawful, tt);
    shelf_is = hears.kept ∙ ap (λ (s : Shelf). shelf_with s hears.v) so_far.shelf_is ∙ sym (shelf_after-append empty_shelf so_far.frames (hears.v ∷ []));
    answered = answered_more so_far.frames so_far.replies replies shelf hears.v so_far.answered so_far.shelf_is hears.may;
    frames_are = omega (arith, counted, so_far.frames_are, length-append so_far.frames (hears.v ∷ []));
    answers_are = omega (arith, (replied replies wrote.sort).0, so_far.answers_are, answers-append so_far.replies replies);
    faults_are = omega (arith, (replied replies wrote.sort).1, so_far.faults_are, faults-append so_far.replies replies);
    gave = gave_frame so_far.frames hears.v so_far.gave hears.gave;
    took = subst (λ (bytes : List ℕ). Took 0 bytes sink sink'') (more_owed so_far.replies replies)
        (took_more 0 (text_of (HelloFrame VERSION worker) ++ texts_of so_far.replies) (texts_of replies) sink sink' sink'' so_far.took wrote.took);
  }

  -- another frame was taken, and a write failed
  pub ends_at_write : (shelf shelf' : Shelf) (served : Served) (replies : List FrameValue)
      → SoFar worker shelf served source source' sink sink' → HearsNext replies shelf shelf' source' source'' → CutOff (texts_of replies) sink' sink'' → EndsAtWrite worker source source'' sink sink''
  ends_at_write shelf shelf' served replies so_far hears cut =
      let first : List ℕ = text_of (HelloFrame VERSION worker) ++ texts_of so_far.replies in
      let owed = more_owed so_far.replies replies in
      record {
        heard = heard_of worker (so_far.frames ++ hears.v ∷ []) (so_far.replies ++ replies) (lawful-append so_far.frames (hears.v ∷ []) so_far.lawful (hears.lawful, tt))
            (answered_more so_far.frames so_far.replies replies shelf hears.v so_far.answered so_far.shelf_is hears.may);
        count = length first + cut.count;
        short = subst (λ (n : ℕ). length first + cut.count < n) (sym (length-append first (texts_of replies)) ∙ ap length owed) (omega (arith, cut.short));
        gave = gave_frame so_far.frames hears.v so_far.gave hears.gave;
        took = subst (λ (bytes : List ℕ). Took 1 bytes sink sink'') (sym (take-append-add first (texts_of replies) cut.count) ∙ ap (take (length first + cut.count)) owed)
            (took_more 1 first (take cut.count (texts_of replies)) sink sink' sink'' so_far.took cut.took);
      }

  -- the frame was a shard for which there was no memory
  pub ends_at_shard : (shelf : Shelf) (served : Served) (v : FrameValue) → IsShardFrame v → IsLawful v → SoFar worker shelf served source source' sink sink' → Gave 0 0 (text_of v) source' source''
      → EndsAtMemory worker source source'' sink sink'
  ends_at_shard shelf served (ShardFrame number links) is lawful so_far came =
      let v : FrameValue = ShardFrame number links in
      record {
        heard = heard_of worker (so_far.frames ++ v ∷ []) so_far.replies (lawful-append so_far.frames (v ∷ []) so_far.lawful (lawful, tt))
            (subst (AreReplies empty_shelf (so_far.frames ++ v ∷ [])) (append-nil so_far.replies) (replies_more so_far.frames so_far.replies [] v so_far.answered refl));
        written = text_of (HelloFrame VERSION worker) ++ texts_of so_far.replies;
        cause = inr (refl, (so_far.frames, number, links, refl));
        gave = gave_frame so_far.frames v so_far.gave came;
        took = so_far.took;
      }
  ends_at_shard shelf served (AskFrame r s ls) is lawful so_far came = absurd is
  ends_at_shard shelf served (HelloFrame a b) is lawful so_far came = absurd is
  ends_at_shard shelf served (AnswerFrame a) is lawful so_far came = absurd is
  ends_at_shard shelf served (FaultFrame a b c) is lawful so_far came = absurd is

pub so_far_starts : (worker : ℕ) (served : Served) (source : SourceState) (sink sink' : SinkState) → served.frames ≡ 0 → served.answers ≡ 0 → served.faults ≡ 0
    → Gave 0 0 [] source source → Took 0 (text_of (HelloFrame VERSION worker)) sink sink' → SoFar worker empty_shelf served source source sink sink'
so_far_starts worker served source sink sink' frames answers faults gave took = search (arith, append-nil)

pub ends_at_hello : (worker limit : ℕ) (fault : ServeFault) (source : SourceState) (sink sink' : SinkState) → Gave 0 0 [] source source
    → Ungreeted fault (text_of (HelloFrame VERSION worker)) sink sink' → EndsBy worker limit fault source source sink sink'
ends_at_hello worker limit (Read fault) source sink sink' gave bad = absurd bad
ends_at_hello worker limit TooMany source sink sink' gave bad = absurd bad
ends_at_hello worker limit Write source sink sink' gave cut = record {
  heard = heard_of worker [] [] tt refl;
  count = cut.count;
  short = subst (λ (n : ℕ). cut.count < n) (ap length (sym (append-nil (text_of (HelloFrame VERSION worker))))) cut.short;
  gave = gave;
  took = subst (λ (bytes : List ℕ). Took 1 (take cut.count bytes) sink sink') (sym (append-nil (text_of (HelloFrame VERSION worker)))) cut.took;
}
ends_at_hello worker limit Memory source sink sink' gave took = record {
  heard = heard_of worker [] [] tt refl;
  written = [];
  cause = inl (refl, refl);
  gave = gave;
  took = took;
}

-- ---- by what a call returns

pub wrote_one : (v : FrameValue) (w : Written) (s s' : SinkState) → IsSortOf w (v ∷ []) → Took 0 (text_of v) s s' → WroteFor (v ∷ []) w s s'
wrote_one v w s s' sort took = record { sort = sort; took = subst (λ (t : List ℕ). Took 0 t s s') (sym (texts-one v)) took }

pub cut_one : (v : FrameValue) (s s' : SinkState) → CutOff (text_of v) s s' → CutOff (texts_of (v ∷ [])) s s'
cut_one v s s' cut = subst (λ (t : List ℕ). CutOff t s s') (sym (texts-one v)) cut

pub wrote_fault : (result : Result Written ServeFault) (r t k : ℕ) (s s' : SinkState)
    → IfOk result (λ w. w ≡ AFault) → OnOk result (Took 0 (text_of (FaultFrame r t k)) s s') → IfOk result (λ w. WroteFor (FaultFrame r t k ∷ []) w s s')
wrote_fault (Ok w) r t k s s' sort took = wrote_one (FaultFrame r t k) w s s' (subst (λ (x : Written). IsSortOf x (FaultFrame r t k ∷ [])) (sym sort) (refl, refl, refl)) took
wrote_fault (Err e) r t k s s' sort took = tt

pub cut_fault : (result : Result Written ServeFault) (r t k : ℕ) (s s' : SinkState)
    → OnErr result (CutOff (text_of (FaultFrame r t k)) s s') → OnErr result (CutOff (texts_of (FaultFrame r t k ∷ [])) s s')
cut_fault (Ok w) r t k s s' cut = tt
cut_fault (Err e) r t k s s' cut = cut_one (FaultFrame r t k) s s' cut

-- no frame was taken
module _ (worker limit : ℕ) (source source' source'' : SourceState) (sink sink' : SinkState) (shelf : Shelf) (served : Served) (so_far : SoFar worker shelf served source source' sink sink') where
  pub stops_well : (fault : ServeFault) (result : Result Served ServeFault) → HearsNone fault source' source'' → IfOk result (λ counts. (counts ≡ served) × (fault ≡ Read Ended))
      → IfOk result (λ counts. ServesToEnd worker counts source source'' sink sink')
  stops_well fault (Ok counts) stops (same, is) =
      subst (λ (x : Served). ServesToEnd worker x source source'' sink sink') (sym same)
      (ends_well worker source source' source'' sink sink' sink' shelf served so_far (subst (λ (f : ServeFault). HearsNone f source' source'') is stops))
  stops_well fault (Err e) stops over = tt

  ends_by : (fault : ServeFault) → HearsNone fault source' source'' → fault ≢ Read Ended → EndsBy worker limit fault source source'' sink sink'
  ends_by (Read fault) refused inside = ends_at_read worker source source' source'' sink sink' sink' shelf served fault (λ same. inside (ap Read same)) so_far refused
  ends_by Memory (v, is, lawful, gave) inside = ends_at_shard worker source source' source'' sink sink' sink' shelf served v is lawful so_far gave
  ends_by Write never inside = absurd never
  ends_by TooMany never inside = absurd never

  pub stops_by : (fault : ServeFault) (result : Result Served ServeFault) → HearsNone fault source' source'' → IfErr result (λ why. (why ≡ fault) × (fault ≢ Read Ended))
      → IfErr result (λ why. EndsBy worker limit why source source'' sink sink')
  stops_by a1 a2 a3 a4 = search (arith, ends_by)

  -- a write failed after one that succeeded
  pub cuts_by : (shelf' : Shelf) (replies : List FrameValue) (sink'' : SinkState) (fault : ServeFault)
      → HearsNext replies shelf shelf' source' source'' → fault ≡ Write → CutOff (texts_of replies) sink' sink''
      → EndsBy worker limit fault source source'' sink sink''
  cuts_by shelf' replies sink'' fault hears write cut =
      subst (λ (x : ServeFault). EndsBy worker limit x source source'' sink sink'') (sym write)
      (ends_at_write worker source source' source'' sink sink' sink'' shelf shelf' served replies so_far hears cut)
