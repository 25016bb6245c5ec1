-- Replies to frames, one after the other.
use Rattle.std.proofs.Common.{◌≡◌, ℕ, ◌+◌, ◌≤◌, Option, Some, None, List, [], ◌∷◌, ◌++◌, length, refl, sym, ap, subst, ◌∙◌, inl, inr, append_assoc, append-nil, arith}
use Rattle.std.specs.Prelude.{◌↔◌, ◌⊎◌, IfSome, IsSome}
use Rattle.std.proofs.lemmas.Bool.Decides.{eqb_tells}
use Rattle.std.proofs.lemmas.List.{length-append}
use Rattle.limits.specs.declared.TheConstants.{MAX_SHARD_LINKS}
use Rattle.links.specs.declared.links.Link.{Link}
use Rattle.links.specs.Link.{EndsUpTo}
use Rattle.links.specs.Offers.{Offer}
use Rattle.round_theory.proofs.LightOffers.{light_offers_unique}
use Rattle.links.specs.AnswerValue.{AnswerValue}
use Rattle.frames.specs.FrameValue.{FrameValue, HelloFrame, AskFrame, AnswerFrame, FaultFrame}
use Rattle.frames.specs.FrameText.{text_of}
use Rattle.frames.specs.Lawful.{IsLawful, IsAsk}
use Rattle.frames.specs.FrameStream.{texts_of, AreLawful}
use Rattle.frames.proofs.Texts.{parts_same}
use Rattle.frames.proofs.FrameStreams.{texts-append, lawful-append, prefix_has_prefix_frames}
use Rattle.worker_replies.specs.Serving.{Shelf, empty_shelf, shelf_with, shelf_after, AreShort, IsAnswerTo, IsReply, MayReply, MayFollow, AreReplies, heard_by, Serves, ask_bit, asks_in}
use Rattle.worker_replies.proofs.Versions.{heard_more, heard_lawful}
use Rattle.worker_replies.proofs.Offering.{light_answer_is_lawful}

-- The replies to frames that follow others come after the replies to those.
pub replies_split : (shelf : Shelf) (fs gs out : List FrameValue) → AreReplies shelf (fs ++ gs) out
    → (early late : List FrameValue) × (out ≡ early ++ late) × AreReplies shelf fs early × AreReplies (shelf_after shelf fs) gs late
replies_split shelf [] gs out are = ([], out, refl, refl, are)
replies_split shelf (f ∷ fs) gs out are =
    let (now, later, split, heard, rest) = are in
    let (early, late, is, first, second) = replies_split (shelf_with shelf f) fs gs later rest in
    (now ++ early, late, split ∙ ap (λ (t : List FrameValue). now ++ t) is ∙ sym (append_assoc now early late), (now, early, refl, heard, first), second)

pub replies_join : (shelf : Shelf) (fs gs early late : List FrameValue) → AreReplies shelf fs early → AreReplies (shelf_after shelf fs) gs late
    → AreReplies shelf (fs ++ gs) (early ++ late)
replies_join shelf [] gs early late first second = subst (AreReplies shelf gs) (ap (λ (t : List FrameValue). t ++ late) (sym first)) second
replies_join shelf (f ∷ fs) gs early late first second =
    let (now, later, split, heard, rest) = first in
    (now, later ++ late, ap (λ (t : List FrameValue). t ++ late) split ∙ append_assoc now later late, heard, replies_join (shelf_with shelf f) fs gs later late rest second)

pub shelf_after-append : (shelf : Shelf) (fs gs : List FrameValue) → shelf_after shelf (fs ++ gs) ≡ shelf_after (shelf_after shelf fs) gs
shelf_after-append shelf [] gs = refl
shelf_after-append shelf (f ∷ fs) gs = shelf_after-append (shelf_with shelf f) fs gs

pub asks-append : (fs gs : List FrameValue) → asks_in (fs ++ gs) ≡ asks_in fs + asks_in gs
asks-append [] gs = omega arith
asks-append (f ∷ fs) gs = omega (arith, asks-append fs gs)

reply_count : (shelf : Shelf) (f : FrameValue) (out : List FrameValue) → MayFollow shelf f out → length out ≡ ask_bit f
reply_count a1 a2 a3 a4 = search arith

pub replies_count : (shelf : Shelf) (fs out : List FrameValue) → AreReplies shelf fs out → length out ≡ asks_in fs
replies_count shelf [] out are = ap length are
replies_count shelf (f ∷ fs) out are =
    let (now, later, split, heard, rest) = are in
    omega (arith, ap length split, length-append now later, reply_count shelf f now heard, replies_count (shelf_with shelf f) fs later rest)

-- If as many replies came as there were asks before the last frame, which is an ask, the next reply is the one to it
-- and the last one.
pub last_reply : (shelf : Shelf) (fs : List FrameValue) (round shard : ℕ) (labels : List ℕ) (came : List FrameValue) (v : FrameValue) (more : List FrameValue)
    → AreReplies shelf (fs ++ AskFrame round shard labels ∷ []) (came ++ v ∷ more) → length came ≡ asks_in fs
    → MayReply (shelf_after shelf fs shard) round shard labels v
last_reply shelf fs round shard labels came v more are count = search (arith, replies_split, parts_same, replies_count)

-- what is written for a stream begins with something that may be written for a prefix of it
pub prefix_has_prefix_replies : (version worker : ℕ) (prefix rest out : List ℕ) → Serves version worker (prefix ++ rest) out
    → (early : List ℕ) × (late : List ℕ) × (out ≡ early ++ late) × Serves version worker prefix early
prefix_has_prefix_replies version worker prefix rest out serves =
    let (some, more, is, are) = prefix_has_prefix_frames prefix rest serves.frames serves.came in
    let (tail, heard) = heard_more version some more in
    let begins : heard_by version serves.frames ≡ heard_by version some ++ tail = ap (heard_by version) is ∙ heard in
    let all : AreReplies empty_shelf (heard_by version some ++ tail) serves.replies = subst (λ (fs : List FrameValue). AreReplies empty_shelf fs serves.replies) begins serves.answered in
    let (early, late, split, first, second) = replies_split empty_shelf (heard_by version some) tail serves.replies all in
    let hello : List ℕ = text_of (HelloFrame version worker) in (
      hello ++ texts_of early,
      texts_of late,
      serves.written ∙ ap (λ (rs : List FrameValue). hello ++ texts_of rs) split ∙ ap (λ (t : List ℕ). hello ++ t) (texts-append early late)
          ∙ sym (append_assoc hello (texts_of early) (texts_of late)),
      record { known = serves.known; frames = some; replies = early; came = are; answered = first; written = refl },
    )

pub replies_more : (fs out now : List FrameValue) (v : FrameValue) → AreReplies empty_shelf fs out → MayFollow (shelf_after empty_shelf fs) v now
    → AreReplies empty_shelf (fs ++ v ∷ []) (out ++ now)
replies_more fs out now v are heard = replies_join empty_shelf fs (v ∷ []) out now are (now, [], sym (append-nil now), heard, refl)

-- ---- what may be written is lawful

fault_is_lawful : (r s c : ℕ) (ls : List ℕ) → IsAsk r s ls → 1 ≤ c → c ≤ 3 → IsLawful (FaultFrame r s c)
fault_is_lawful r s c ls ask from to = record { round = ask.round; shard = omega (arith, ask.shard); code_from_one = from; code_to_three = to }

reply_is_lawful : (kept : Option (List Link)) (r s : ℕ) (ls : List ℕ) (v : FrameValue) → IfSome kept (λ links. length links ≤ MAX_SHARD_LINKS) → IsAsk r s ls
    → MayReply kept r s ls v → IsLawful v
reply_is_lawful a1 a2 a3 a4 a5 a6 a7 a8 = search (arith, fault_is_lawful, light_answer_is_lawful)

follow_is_lawful : (shelf : Shelf) (v : FrameValue) (now : List FrameValue) → AreShort shelf → IsLawful v → MayFollow shelf v now → AreLawful now
follow_is_lawful a1 a2 a3 a4 a5 a6 = search (arith, reply_is_lawful)

-- a lawful shard has no more links than are allowed
pub short_with : (shelf : Shelf) (v : FrameValue) → AreShort shelf → IsLawful v → AreShort (shelf_with shelf v)
short_with a1 a2 a3 a4 a5 = search (arith, eqb_tells)

replies_lawful : (shelf : Shelf) (fs out : List FrameValue) → AreShort shelf → AreLawful fs → AreReplies shelf fs out → AreLawful out
replies_lawful shelf [] out short lawful are = subst AreLawful (sym are) tt
replies_lawful shelf (v ∷ fs) out short lawful are =
    let (now, later, split, heard, rest) = are in
    subst AreLawful (sym split) (lawful-append now later (follow_is_lawful shelf v now short lawful.0 heard)
    (replies_lawful (shelf_with shelf v) fs later (short_with shelf v short lawful.0) lawful.1 rest))

-- what a session may write is a hello and lawful frames
pub served_lawful : (version worker : ℕ) (stream out : List ℕ) (serves : Serves version worker stream out) → AreLawful serves.replies
served_lawful version worker stream out serves = search (arith, replies_lawful, heard_lawful)

-- ---- there is one reply to an ask

abbrev answer_of : ℕ → ℕ → List Offer → AnswerValue
answer_of round shard offers = record { round = round; shard = shard; offers = offers }

pub one_answer : (links : List Link) (r s : ℕ) (ls : List ℕ) (a b : AnswerValue) → IsAnswerTo links r s ls a → IsAnswerTo links r s ls b → a ≡ b
one_answer links r s ls a b is also =
    ap (λ (n : ℕ). answer_of n a.shard a.offers) (is.round_is ∙ sym also.round_is)
    ∙ ap (λ (n : ℕ). answer_of b.round n a.offers) (is.shard_is ∙ sym also.shard_is)
    ∙ ap (answer_of b.round b.shard) (light_offers_unique links ls a.offers b.offers is.light also.light)

-- the reply about a stored shard is an answer or code 3
pub kept_reply : (links : List Link) (r s : ℕ) (ls : List ℕ) (v : FrameValue) → IsReply (Some links) r s ls v
    → ((a : AnswerValue) × (v ≡ AnswerFrame a) × IsAnswerTo links r s ls a) ⊎ ((v ≡ FaultFrame r s 3) × ¬ EndsUpTo (length ls) links)
kept_reply a1 a2 a3 a4 a5 a6 = search arith

pub one_reply : (kept : Option (List Link)) (r s : ℕ) (ls : List ℕ) (v w : FrameValue) → IsReply kept r s ls v → IsReply kept r s ls w → v ≡ w
one_reply None r s ls v w is also = is ∙ sym also
one_reply (Some links) r s ls v w is also = elim (kept_reply links r s ls v is) [
  | inl (a, v_is, one) ↦ elim (kept_reply links r s ls w also) [
    | inl (b, w_is, two) ↦ v_is ∙ ap AnswerFrame (one_answer links r s ls a b one two) ∙ sym w_is
    | inr (w_is, none) ↦ absurd (none one.ends)
  ]
  | inr (v_is, none) ↦ elim (kept_reply links r s ls w also) [
    | inl (b, w_is, two) ↦ absurd (none two.ends)
    | inr (w_is, unmet) ↦ v_is ∙ sym w_is
  ]
]

-- code 1 may replace the reply about a stored shard, and no other
abbrev code_of : List FrameValue → ℕ
code_of (FaultFrame r s c ∷ vs) = c
code_of vs = 0

code_one : (kept : Option (List Link)) (r s : ℕ) (ls : List ℕ)
    → ((v : FrameValue) × (FaultFrame r s 1 ∷ [] ≡ v ∷ []) × MayReply kept r s ls v) ↔ IsSome kept
code_one None r s ls = search arith
code_one (Some links) r s ls = (λ has. refl, λ is. (FaultFrame r s 1, refl, inr refl))

pub code_one_where_kept : (shelf : Shelf) (r s : ℕ) (ls : List ℕ) → MayFollow shelf (AskFrame r s ls) (FaultFrame r s 1 ∷ []) ↔ IsSome (shelf s)
code_one_where_kept shelf r s ls = code_one (shelf s) r s ls
