-- What was sent and got so far, ask by ask, and what a faithful line gets.
use Rattle.std.proofs.Common.{◌≡◌, ◌≢◌, ℕ, ◌<◌, List, [], ◌∷◌, ◌++◌, length, drop, Some, refl, sym, ap, subst, ◌∙◌, append_assoc, append-nil, ⊎_elim, inl, inr, arith, eq-eqb, ne_eqb, le-leb}
use Rattle.std.specs.Prelude.{◌+◌, ◌≤◌, nat_le, cond, Option, None, IfSome, MatchOption, Bool, true, ◌||◌, if◌then◌else◌, map}
use Rattle.std.proofs.lemmas.Bool.{cases_eq}
use Rattle.std.proofs.lemmas.List.{map-append, length-map}
use Rattle.std.proofs.lemmas.List.Elements.{All-nil, All-cons, All-head, All-tail, All-append, Contains-append_left, Contains-append_right}
use Rattle.std.specs.List.{All}
use Rattle.byte_streams.proofs.Streaming.{appends-known}
use Rattle.limits.specs.declared.TheConstants.{MAX_WORKERS}
use Rattle.links.specs.declared.links.Link.{Link}
use Rattle.links.specs.Link.{EndsUpTo}
use Rattle.links.specs.Cut.{links_at}
use Rattle.links.specs.AnswerValue.{AnswerValue}
use Rattle.frames.specs.FrameValue.{FrameValue, HelloFrame, ShardFrame, AskFrame, AnswerFrame, FaultFrame}
use Rattle.frames.specs.FrameText.{version_of, text_of}
use Rattle.frames.specs.Lawful.{IsVersion, IsLawful, IsShard, IsAsk}
use Rattle.frames.specs.FrameStream.{texts_of, AreLawful}
use Rattle.worker_replies.specs.Serving.{Shelf, empty_shelf, shelf_with, shelf_after, MayReply, AreReplies, heard_by, asks_in}
use Rattle.frames.proofs.FrameStreams.{texts-append, lawful-append, lawful_back, prefix_of_frames, only_frames_of_texts}
use Rattle.worker_replies.proofs.Replying.{asks-append, shelf_after-append, last_reply, served_lawful}
use Rattle.round_theory.specs.declared.fault.PortFault.{PortFault}
use Rattle.round_theory.specs.declared.fault.PortFault.TheVariants.{Down, Garbled, WrongHello, Gave, Memory, TooOld, Closed}
use Rattle.claim_board.specs.Shards.{has_shard}
use Rattle.wires.specs.Lines.{LineState, Transfers, ServesSoFar}
use Rattle.wires.specs.Causes.{IsNoReply, Receives, Cause, IsBlameless}
use Rattle.round_theory.specs.Ports.{IsHonestAnswer}
use Rattle.round_theory.specs.Exchanges.{Exchange, exchange_of, IsAskedIn, answers_of}
use Rattle.wires.specs.Clients.{Client, ClientState, HelloCame, HasFrames, seen_client, hello_due, shard_due, frames_put, Brings, AnswersOverLine, frames_got, HasGiven, IsOfCut, times_sent}
use Rattle.wires.specs.Clients.{asks_among, FollowTheirShards, MatchesLine}
use Rattle.std.proofs.lemmas.List.Sums.{take_while-cons}
use Rattle.wires.proofs.Going.{then_came}
use Rattle.wires.proofs.Refused.{bad_never}

-- ---- what one ask puts

asks_shard : (sent : Bool) (shard : ℕ) (links : List Link) → asks_in (shard_due sent shard links) ≡ 0
asks_shard a1 a2 a3 = search arith

times-append : (s : ℕ) (fs gs : List FrameValue) → times_sent s (fs ++ gs) ≡ times_sent s fs + times_sent s gs
times-append s [] gs = omega arith
times-append s (ShardFrame number links ∷ fs) gs = omega (arith, times-append s fs gs)
times-append s (HelloFrame v w ∷ fs) gs = times-append s fs gs
times-append s (AskFrame r k ls ∷ fs) gs = times-append s fs gs
times-append s (AnswerFrame a ∷ fs) gs = times-append s fs gs
times-append s (FaultFrame r k c ∷ fs) gs = times-append s fs gs

of_cut_ask : (cut : List (List Link)) (round shard : ℕ) (labels : List ℕ) → shard < length cut → All (IsOfCut cut) (AskFrame round shard labels ∷ [])
of_cut_ask cut round shard labels within = All-cons (IsOfCut cut) (AskFrame round shard labels) [] within (All-nil (IsOfCut cut))

of_cut_put : (sent : Bool) (cut : List (List Link)) (round shard : ℕ) (labels : List ℕ) → shard < length cut
    → All (IsOfCut cut) (shard_due sent shard (links_at cut shard) ++ AskFrame round shard labels ∷ [])
of_cut_put a1 a2 a3 a4 a5 a6 = search (arith, of_cut_ask)

among_put : (sent : Bool) (shard : ℕ) (links : List Link) (round : ℕ) (labels : List ℕ) → asks_among (shard_due sent shard links ++ AskFrame round shard labels ∷ []) ≡ AskFrame round shard labels ∷ []
among_put a1 a2 a3 a4 a5 = search arith

among_append : (fs gs : List FrameValue) → asks_among (fs ++ gs) ≡ asks_among fs ++ asks_among gs
among_append [] gs = refl
among_append (AskFrame r k ls ∷ fs) gs = ap (λ (hs : List FrameValue). AskFrame r k ls ∷ hs) (among_append fs gs)
among_append (ShardFrame number links ∷ fs) gs = among_append fs gs
among_append (HelloFrame v w ∷ fs) gs = among_append fs gs
among_append (AnswerFrame a ∷ fs) gs = among_append fs gs
among_append (FaultFrame r k c ∷ fs) gs = among_append fs gs

among_count : (fs : List FrameValue) → asks_in fs ≡ length (asks_among fs)
among_count [] = refl
among_count (AskFrame r k ls ∷ fs) = omega (arith, among_count fs)
among_count (ShardFrame number links ∷ fs) = omega (arith, among_count fs)
among_count (HelloFrame v w ∷ fs) = omega (arith, among_count fs)
among_count (AnswerFrame a ∷ fs) = omega (arith, among_count fs)
among_count (FaultFrame r k c ∷ fs) = omega (arith, among_count fs)

-- a client that matches its line asked once for each exchange
pub asks_made : (client : Client) (said : List FrameValue) (exchanges : List Exchange) → MatchesLine client said exchanges → asks_in said ≡ length exchanges
asks_made client said exchanges step = search (arith, among_count, length-map)

shard_lawful : (sent : Bool) (shard : ℕ) (links : List Link) → IsShard shard links → AreLawful (shard_due sent shard links)
shard_lawful a1 a2 a3 a4 = search arith

pub put_lawful : (round shard : ℕ) (labels : List ℕ) (client : Client) → IsShard shard (links_at client.cut shard) → IsAsk round shard labels → AreLawful (frames_put client round shard labels)
put_lawful round shard labels client is ask = search (arith, lawful-append, shard_lawful)

shelf_there : (sent : Bool) (shelf : Shelf) (shard : ℕ) (links : List Link) → shelf shard ≡ (if sent then Some links else None)
    → shelf_after shelf (shard_due sent shard links) shard ≡ Some links
shelf_there a1 a2 a3 a4 a5 = search (arith, eq-eqb)

follows-append : (shelf : Shelf) (fs gs : List FrameValue) → FollowTheirShards shelf fs → FollowTheirShards (shelf_after shelf fs) gs → FollowTheirShards shelf (fs ++ gs)
follows-append shelf [] gs before behind = behind
follows-append shelf (AskFrame r k ls ∷ fs) gs before behind = (before.0, follows-append shelf fs gs before.1 behind)
follows-append shelf (ShardFrame number links ∷ fs) gs before behind = follows-append (shelf_with shelf (ShardFrame number links)) fs gs before behind
follows-append shelf (HelloFrame v w ∷ fs) gs before behind = follows-append shelf fs gs before behind
follows-append shelf (AnswerFrame a ∷ fs) gs before behind = follows-append shelf fs gs before behind
follows-append shelf (FaultFrame r k c ∷ fs) gs before behind = follows-append shelf fs gs before behind

-- an ask puts its shard before it, unless that was on the shelf
follows_put : (sent : Bool) (shelf : Shelf) (shard : ℕ) (links : List Link) (round : ℕ) (labels : List ℕ) → shelf shard ≡ (if sent then Some links else None)
    → FollowTheirShards shelf (shard_due sent shard links ++ AskFrame round shard labels ∷ [])
follows_put a1 a2 a3 a4 a5 a6 a7 = search (arith, eq-eqb)

-- ---- what was got

-- after what was got before, the hello comes before any other bytes
got_more : (heard : Option ℕ) (version worker : ℕ) (answers : List AnswerValue) (bytes : List ℕ) → ((v : ℕ) → heard ≡ Some v → v ≡ version) → (heard ≡ None → answers ≡ [])
    → texts_of (frames_got heard worker answers) ++ (hello_due heard version worker ++ bytes) ≡ texts_of (HelloFrame version worker ∷ map AnswerFrame answers) ++ bytes
got_more a1 a2 a3 a4 a5 a6 a7 = search (arith, append-nil)

answers_more : (answers : List AnswerValue) (a : AnswerValue) → map AnswerFrame (answers ++ a ∷ []) ≡ map AnswerFrame answers ++ AnswerFrame a ∷ []
answers_more answers a = map-append AnswerFrame answers (a ∷ [])

got_answer : (version worker : ℕ) (answers : List AnswerValue) (a : AnswerValue)
    → texts_of (HelloFrame version worker ∷ map AnswerFrame answers) ++ text_of (AnswerFrame a) ≡ texts_of (frames_got (Some version) worker (answers ++ a ∷ []))
got_answer version worker answers a =
    ap (λ (t : List ℕ). texts_of (HelloFrame version worker ∷ map AnswerFrame answers) ++ t) (sym (append-nil (text_of (AnswerFrame a))))
    ∙ sym (texts-append (HelloFrame version worker ∷ map AnswerFrame answers) (AnswerFrame a ∷ []))
    ∙ ap (λ (fs : List FrameValue). texts_of (HelloFrame version worker ∷ fs)) (sym (answers_more answers a))

-- ---- what the worker's version has

-- what was put before is of this version too, since nothing was put before the hello
had_before : (heard : Option ℕ) (version : ℕ) (said : List FrameValue) → ((v : ℕ) → heard ≡ Some v → v ≡ version) → MatchOption heard (said ≡ []) (λ v. HasFrames v said) → HasFrames version said
had_before a1 a2 a3 a4 a5 = search arith

-- a worker whose version has all frames reads all of them
all_heard : (version : ℕ) (frames : List FrameValue) → HasFrames version frames → heard_by version frames ≡ frames
all_heard version [] has = refl
all_heard version (v ∷ frames) has =
    let fits : FrameValue → Type 0 = λ v. version_of v ≤ version in
    take_while-cons (λ (f : FrameValue). nat_le (version_of f) version) v frames
    ∙ ap (λ (b : Bool). cond b (v ∷ heard_by version frames) []) (le-leb (version_of v) version (All-head fits v frames has))
    ∙ ap (λ (fs : List FrameValue). v ∷ fs) (all_heard version frames (All-tail fits v frames has))

-- what an ask brought, and what it put before that
pub all_brought : {L : Type 0} (state : L → LineState) (round shard : ℕ) (labels bytes : List ℕ) (old new : ClientState L) (brought : Brings state round shard labels bytes old new)
    → Transfers 0 0 (texts_of (frames_put (seen_client state old) round shard labels)) (hello_due old.version brought.version old.worker ++ bytes) (state old.line) (state new.line)
all_brought state round shard labels bytes old new brought = then_came (state old.line) (state brought.asked) (state new.line) _ _ bytes brought.sends.went brought.came

-- ---- an ask that was answered

module _ {L : Type 0} (state : L → LineState) (round shard : ℕ) (labels : List ℕ) (a : AnswerValue) (old new : ClientState L) (asked : AnswersOverLine state round shard labels a old new) where
  abbrev version : ℕ
  version = asked.brought.version

  greeted : HelloCame version old.version new.version
  greeted = asked.brought.greeted

  brought : Transfers 0 0 (texts_of (frames_put (seen_client state old) round shard labels)) (hello_due old.version version old.worker ++ text_of (AnswerFrame a)) (state old.line) (state new.line)
  brought = all_brought state round shard labels (text_of (AnswerFrame a)) old new asked.brought

  -- the answer is appended to those before
  pub gave_more : (answers : List AnswerValue) → HasGiven (seen_client state old) answers → HasGiven (seen_client state new) (answers ++ a ∷ [])
  gave_more answers given =
      let got : (state new.line).got ≡ Some (texts_of (frames_got (Some version) old.worker (answers ++ a ∷ []))) =
      appends-known (state old.line).got (state new.line).got _ _ given.got (brought.got refl)
      ∙ ap (λ t. Some t) (got_more old.version version old.worker answers (text_of (AnswerFrame a)) greeted.stays given.silent ∙ got_answer version old.worker answers a) in
      record {
        got = got ∙ ap (λ w. Some (texts_of (frames_got (Some version) w (answers ++ a ∷ [])))) (sym asked.worker)
            ∙ ap (λ (heard : Option ℕ). Some (texts_of (frames_got heard new.worker (answers ++ a ∷ [])))) (sym greeted.heard);
        lawful = subst AreLawful (sym (answers_more answers a)) (lawful-append (map AnswerFrame answers) (AnswerFrame a ∷ []) given.lawful (asked.lawful, tt));
        known = subst (λ (heard : Option ℕ). IfSome heard IsVersion) (sym greeted.heard) greeted.known;
        silent = λ e. cc;
      }

  answers_then : (exchanges : List Exchange) → answers_of (exchanges ++ exchange_of round shard labels a ∷ []) ≡ answers_of exchanges ++ a ∷ []
  answers_then exchanges = map-append (λ (e : Exchange). e.answer) exchanges (exchange_of round shard labels a ∷ [])

  -- and the exchange is appended to those before
  pub exchanged_more : (exchanges : List Exchange) → HasGiven (seen_client state old) (answers_of exchanges)
      → HasGiven (seen_client state new) (answers_of (exchanges ++ exchange_of round shard labels a ∷ []))
  exchanged_more exchanges given = subst (HasGiven (seen_client state new)) (sym (answers_then exchanges)) (gave_more (answers_of exchanges) given)

  module _ (in_cut : shard < length old.cut) (is : IsShard shard (links_at old.cut shard)) (ask : IsAsk round shard labels) where
    module _ (said : List FrameValue) (exchanges : List Exchange) (step : MatchesLine (seen_client state old) said exchanges) where
      shelves_step : (s : ℕ) → s < length old.cut
          → shelf_after empty_shelf (said ++ frames_put (seen_client state old) round shard labels) s ≡ (if has_shard new.sent s then Some (links_at old.cut s) else None)
      shelves_step s within = search (arith, shelf_after-append, eq-eqb, shelf_there, ne_eqb, cases_eq)

      once_step : (s : ℕ) → times_sent s (said ++ frames_put (seen_client state old) round shard labels) ≡ (if has_shard new.sent s then 1 else 0)
      once_step s = search (arith, times-append, eq-eqb, ne_eqb, cases_eq)

      -- a shard that has been sent is the one that is asked about, or was sent before
      needed_step : (s : ℕ) → has_shard new.sent s ≡ true → IsAskedIn (exchanges ++ exchange_of round shard labels a ∷ []) s
      needed_step s there =
          let exchange : Exchange = exchange_of round shard labels a in
          ⊎_elim
          (λ (e : s ≡ shard). (exchange, Contains-append_right exchanges (exchange ∷ []) exchange (0, omega arith, refl), sym e))
          (λ (apart : s ≢ shard).
          let before : has_shard old.sent s ≡ true = sym (asked.sent s ∙ ap (λ b. b || has_shard old.sent s) (ne_eqb s shard apart)) ∙ there in
          let (other, is_in, is) = step.needed s before in
          (other, Contains-append_left exchanges (exchange ∷ []) other is_in, is))
          (cases_eq s shard)

      pub step_more : MatchesLine (seen_client state new) (said ++ frames_put (seen_client state old) round shard labels) (exchanges ++ exchange_of round shard labels a ∷ [])
      step_more =
          let more : List FrameValue = frames_put (seen_client state old) round shard labels in
          record {
            no_failure = omega (arith, brought.failures, step.no_failure);
            sent = appends-known (state old.line).sent (state new.line).sent (texts_of said) (texts_of more) step.sent (brought.sent refl) ∙ ap (λ t. Some t) (sym (texts-append said more));
            lawful = lawful-append said more step.lawful (put_lawful round shard labels (seen_client state old) is ask);
            only = subst (λ (k : List (List Link)). All (IsOfCut k) (said ++ more)) (sym asked.cut)
                (All-append (IsOfCut old.cut) said more step.only (of_cut_put (has_shard old.sent shard) old.cut round shard labels in_cut));
            once = once_step;
            needed = needed_step;
            asked =
                among_append said more
                ∙ (ap (λ (fs : List FrameValue). asks_among said ++ fs) (among_put (has_shard old.sent shard) shard (links_at old.cut shard) round labels)
                ∙ (ap (λ (fs : List FrameValue). fs ++ AskFrame round shard labels ∷ []) step.asked
                ∙ sym (map-append (λ (e : Exchange). AskFrame e.round e.shard e.labels) exchanges (exchange_of round shard labels a ∷ []))));
            first = follows-append empty_shelf said more step.first
                (follows_put (has_shard old.sent shard) (shelf_after empty_shelf said) shard (links_at old.cut shard) round labels (step.shelves shard in_cut));
            has = subst (λ (heard : Option ℕ). MatchOption heard (said ++ more ≡ []) (λ v. HasFrames v (said ++ more))) (sym greeted.heard)
                (All-append (λ (v : FrameValue). version_of v ≤ version) said more (had_before old.version version said greeted.stays step.has) asked.brought.sends.has);
            gave = exchanged_more exchanges step.gave;
            shelves = subst (λ (k : List (List Link)). (s : ℕ) → s < length k → shelf_after empty_shelf (said ++ more) s ≡ (if has_shard new.sent s then Some (links_at k s) else None))
                (sym asked.cut) shelves_step;
          }

-- ---- what a faithful line gets

same_version : (v w worker : ℕ) (fs gs : List FrameValue) → HelloFrame v worker ∷ fs ≡ HelloFrame w worker ∷ gs → v ≡ w
same_version v w worker fs gs same = cc

module _ {L : Type 0} (state : L → LineState) (round shard : ℕ) (labels : List ℕ) (old new : ClientState L) (said : List FrameValue) (exchanges : List Exchange)
    (step : MatchesLine (seen_client state old) said exchanges) (below : old.worker < MAX_WORKERS)
    (faithful : ServesSoFar old.worker (state new.line)) where
  abbrev before : Client
  before = seen_client state old

  abbrev after : Client
  after = seen_client state new

  hello_is : (version : ℕ) → IsVersion version → IsLawful (HelloFrame version before.worker)
  hello_is version known = record { version = known; worker = below }

  -- what came after the hello and the answers so far begins the texts of the replies that are left
  record Left (bytes : List ℕ) : Type 0 where
    pub left : List FrameValue
    pub rest : List ℕ
    pub texts : bytes ++ rest ≡ texts_of left
    pub lawful : AreLawful left
    pub replies : AreReplies empty_shelf (said ++ frames_put before round shard labels) (map AnswerFrame (answers_of exchanges) ++ left)

  left_of : (bytes : List ℕ) → AreLawful (frames_put before round shard labels) → Brings state round shard labels bytes old new → Left bytes
  left_of bytes lawful asked =
      let brought = all_brought state round shard labels bytes old new asked in
      let more : List FrameValue = frames_put before round shard labels in
      let version : ℕ = asked.version in
      let hello : List FrameValue = HelloFrame version before.worker ∷ map AnswerFrame (answers_of exchanges) in
      let sent_is : after.line.sent ≡ Some (texts_of (said ++ more)) =
      appends-known before.line.sent after.line.sent (texts_of said) (texts_of more) step.sent (brought.sent refl) ∙ ap (λ t. Some t) (sym (texts-append said more)) in
      let got_is : after.line.got ≡ Some (texts_of hello ++ bytes) =
      appends-known before.line.got after.line.got _ _ step.gave.got (brought.got refl)
      ∙ ap (λ t. Some t) (got_more before.version version before.worker (answers_of exchanges) bytes asked.greeted.stays step.gave.silent) in
      let (served, rest, serves) = faithful (omega (arith, brought.failures, step.no_failure)) (texts_of (said ++ more)) (texts_of hello ++ bytes) sent_is got_is in
      let lawful_replies : AreLawful serves.replies = served_lawful served before.worker (texts_of (said ++ more)) ((texts_of hello ++ bytes) ++ rest) serves in
      let frames : serves.frames ≡ said ++ more = only_frames_of_texts (said ++ more) serves.frames (lawful-append said more step.lawful lawful) serves.came in
      let whole : texts_of hello ++ (bytes ++ rest) ≡ texts_of (HelloFrame served before.worker ∷ serves.replies) = sym (append_assoc (texts_of hello) bytes rest) ∙ serves.written in
      let (left, is, texts) = prefix_of_frames hello (HelloFrame served before.worker ∷ serves.replies) (bytes ++ rest)
      (hello_is version asked.greeted.known, step.gave.lawful) (hello_is served serves.known, lawful_replies) whole in
      let same : served ≡ version = same_version served version before.worker serves.replies (map AnswerFrame (answers_of exchanges) ++ left) is in
      let had : HasFrames version (said ++ more) = All-append (λ (v : FrameValue). version_of v ≤ version) said more
      (had_before before.version version said asked.greeted.stays step.has) asked.sends.has in
      let heard : heard_by served serves.frames ≡ said ++ more = ap (λ (v : ℕ). heard_by v serves.frames) same ∙ ap (heard_by version) frames ∙ all_heard version (said ++ more) had in
      let replies : serves.replies ≡ map AnswerFrame (answers_of exchanges) ++ left = ap (drop 1) is in
      record {
        left = left;
        rest = rest;
        texts = texts;
        lawful = lawful_back (map AnswerFrame (answers_of exchanges)) left (subst AreLawful replies lawful_replies);
        replies = subst (λ (fs : List FrameValue). AreReplies empty_shelf fs (map AnswerFrame (answers_of exchanges) ++ left)) heard
            (subst (AreReplies empty_shelf (heard_by served serves.frames)) replies serves.answered);
      }

  first_of : (bytes : List ℕ) → before.version ≡ None → Receives bytes before.line after.line
      → (version : ℕ) × (rest : List ℕ) × (replies : List FrameValue) × (bytes ++ rest ≡ texts_of (HelloFrame version before.worker ∷ replies)) × AreLawful (HelloFrame version before.worker ∷ replies)
  first_of bytes quiet came =
      let none : before.line.got ≡ Some [] = step.gave.got ∙ ap (λ b. Some (texts_of (frames_got b before.worker (answers_of exchanges)))) quiet in
      let sent_is : after.line.sent ≡ Some (texts_of said ++ []) = appends-known before.line.sent after.line.sent (texts_of said) [] step.sent (came.sent refl) in
      let got_is : after.line.got ≡ Some bytes = appends-known before.line.got after.line.got [] bytes none (came.got refl) in
      let (served, rest, serves) = faithful (omega (arith, came.failures, step.no_failure)) (texts_of said ++ []) bytes sent_is got_is in
      (served, rest, serves.replies, serves.written, (hello_is served serves.known, served_lawful served before.worker (texts_of said ++ []) (bytes ++ rest) serves))

  module _ (in_cut : shard < length before.cut) (is : IsShard shard (links_at before.cut shard)) (ask : IsAsk round shard labels) where
    -- a frame that came instead of a reply is the worker's reply to this ask
    reply_of : (v : FrameValue) → IsLawful v → Brings state round shard labels (text_of v) old new → MayReply (Some (links_at before.cut shard)) round shard labels v
    reply_of v lawful brought =
        let links : List Link = links_at before.cut shard in
        let first : List FrameValue = shard_due (has_shard before.sent shard) shard links in
        let left = left_of (text_of v) (put_lawful round shard labels before is ask) brought in
        let (later, one, texts) = prefix_of_frames (v ∷ []) left.left left.rest (lawful, tt) left.lawful (ap (λ (t : List ℕ). t ++ left.rest) (append-nil (text_of v)) ∙ left.texts) in
        let are : AreReplies empty_shelf ((said ++ first) ++ AskFrame round shard labels ∷ []) (map AnswerFrame (answers_of exchanges) ++ v ∷ later) =
        subst (λ (fs : List FrameValue). AreReplies empty_shelf fs (map AnswerFrame (answers_of exchanges) ++ v ∷ later)) (sym (append_assoc said first (AskFrame round shard labels ∷ [])))
        (subst (λ (rs : List FrameValue). AreReplies empty_shelf (said ++ frames_put before round shard labels) (map AnswerFrame (answers_of exchanges) ++ rs)) one left.replies) in
        let count : length (map AnswerFrame (answers_of exchanges)) ≡ asks_in (said ++ first) = omega (
          arith,
          length-map (answers_of exchanges) AnswerFrame,
          length-map exchanges (λ (e : Exchange). e.answer),
          asks_made before said exchanges step,
          asks-append said first,
          asks_shard (has_shard before.sent shard) shard links,
        ) in
        let shelf : shelf_after empty_shelf (said ++ first) shard ≡ Some links =
        ap (λ (f : Shelf). f shard) (shelf_after-append empty_shelf said first) ∙ shelf_there (has_shard before.sent shard) (shelf_after empty_shelf said) shard links (step.shelves shard in_cut) in
        subst (λ (o : Option (List Link)). MayReply o round shard labels v) shelf (last_reply empty_shelf (said ++ first) round shard labels (map AnswerFrame (answers_of exchanges)) v later are count)

    pub honest_answer : (a : AnswerValue) → AnswersOverLine state round shard labels a old new → IsHonestAnswer before.cut round shard labels a
    honest_answer a asked = elim (reply_of (AnswerFrame a) asked.lawful asked.brought) [
      | inl reply ↦ record { round_is = reply.round_is; shard_is = reply.shard_is; light = reply.light }
      | inr want ↦ cc
    ]

    -- what may be replied to an ask about a stored shard is an answer or a fault
    no_reply : (v : FrameValue) → IsNoReply v → MayReply (Some (links_at before.cut shard)) round shard labels v → ⊥
    no_reply a1 a2 a3 = search arith

    code_of : (r s r' s' c c' : ℕ) → FaultFrame r s c ≡ FaultFrame r' s' c' → c ≡ c'
    code_of r s r' s' c c' same = cc

    pub blameless : (fault : PortFault) → EndsUpTo (length labels) (links_at before.cut shard) → Cause state fault round shard labels old new → IsBlameless fault
    blameless Down ends cause = tt
    blameless Memory ends cause = tt
    blameless TooOld ends cause = tt
    blameless Closed ends cause = tt
    blameless Garbled ends cause = elim cause [
      | inl first ↦
          let (bytes, bad, came) = first.1 in
          let (served, rest, replies, same, lawful) = first_of bytes first.0 came in
          bad_never bytes rest (HelloFrame served before.worker ∷ replies) bad lawful same
      | inr later ↦ elim (later.1) [
        | inl bad ↦
            let left = left_of later.0 (put_lawful round shard labels before is ask) later.2 in
            bad_never later.0 left.rest left.left bad left.lawful left.texts
        | inr other ↦
            no_reply other.0 other.2 (reply_of other.0 other.1 (subst (λ (t : List ℕ). Brings state round shard labels t old new) other.3 later.2))
      ]
    ]
    blameless WrongHello ends cause =
        let (v, lawful, other, came) = cause.1 in
        let (served, rest, replies, same, all_lawful) = first_of (text_of v) cause.0 came in
        let (hs, one, texts) = prefix_of_frames (v ∷ []) (HelloFrame served before.worker ∷ replies) rest (lawful, tt) all_lawful (ap (λ (t : List ℕ). t ++ rest) (append-nil (text_of v)) ∙ same) in
        other served cc
    blameless (Gave code) ends cause =
        let (bytes, (r, s, lawful, is), brought) = cause in
        elim (reply_of (FaultFrame r s code) lawful (subst (λ (t : List ℕ). Brings state round shard labels t old new) is brought)) [
          | inl reply ↦ absurd (reply.1 ends)
          | inr want ↦ code_of r s round shard code 1 want
        ]
