-- One ask, from its steps.
use Rattle.std.proofs.Common.{◌≡◌, ℕ, List, [], ◌∷◌, ◌++◌, sym, ap, subst, ◌∙◌, append-nil, inl, inr, arith}
use Rattle.std.specs.Prelude.{Result, Ok, Err, IfOk, IfErr, Option, Some, ◌≤◌, ◌||◌, ◌==◌}
use Rattle.links.specs.declared.links.Link.{Link}
use Rattle.links.specs.Cut.{links_at}
use Rattle.links.specs.AnswerValue.{AnswerValue}
use Rattle.frames.specs.FrameValue.{FrameValue, AskFrame, AnswerFrame}
use Rattle.frames.specs.FrameText.{version_of, text_of}
use Rattle.frames.specs.Lawful.{IsVersion, IsAnswer}
use Rattle.frames.specs.FrameStream.{texts_of}
use Rattle.frames.proofs.FrameStreams.{texts-append}
use Rattle.round_theory.specs.declared.fault.PortFault.{PortFault}
use Rattle.round_theory.specs.declared.fault.PortFault.TheVariants.{Down, Garbled, WrongHello, Gave, Memory, TooOld, Closed}
use Rattle.claim_board.specs.Shards.{has_shard}
use Rattle.wires.specs.Lines.{LineState, Transfers}
use Rattle.wires.specs.Clients.{ClientState, HelloCame, HasFrames, hello_due, shard_due, SendsAsk, BringsUpTo, AnswersOverLine}
use Rattle.wires.specs.Causes.{Receives, SendingFault, AnswerFault, Cause, InReply}
use Rattle.std.proofs.lemmas.List.Elements.{All-nil, All-cons, All-append}
use Rattle.wires.proofs.Going.{went_then, then_failed}

pub hello_came : (version : ℕ) (before after : Option ℕ) → IsVersion version → after ≡ Some version → ((v : ℕ) → before ≡ Some v → v ≡ version) → HelloCame version before after
hello_came version before after known heard stays = record { known = known; heard = heard; stays = stays }

-- the version has what an ask puts, if it has the shard's frame
has_put : (version : ℕ) (due : List FrameValue) (round shard : ℕ) (labels : List ℕ) → IsVersion version → HasFrames version due → HasFrames version (due ++ AskFrame round shard labels ∷ [])
has_put version due round shard labels known has =
    let fits : FrameValue → Type 0 = λ v. version_of v ≤ version in
    All-append fits due (AskFrame round shard labels ∷ []) has (All-cons fits (AskFrame round shard labels) [] known.from_first (All-nil fits))

-- what is due of a shard, also under another name for it and for its links
abbrev due_of : {L : Type 0} → ClientState L → ℕ → List FrameValue
due_of before shard = shard_due (has_shard before.sent shard) shard (links_at before.cut shard)

due_is : {L : Type 0} (before : ClientState L) (shard number : ℕ) (links : List Link) → number ≡ shard → links ≡ links_at before.cut shard
    → shard_due (has_shard before.sent number) number links ≡ due_of before shard
due_is before shard number links same same' = search arith

-- the hello came, and the shard and the ask were sent
module _ {L : Type 0} (state : L → LineState) (round shard : ℕ) (labels : List ℕ) (version : ℕ) (before : ClientState L) where
  pub asked_so_far : (number : ℕ) (links : List Link) (r1 r2 : LineState) (r3 : L) → number ≡ shard → links ≡ links_at before.cut shard
      → Receives (hello_due before.version version before.worker) (state before.line) r1 → IsVersion version → HasFrames version (shard_due (has_shard before.sent number) number links)
      → Transfers 0 0 (texts_of (shard_due (has_shard before.sent number) number links)) [] r1 r2
      → Transfers 0 0 (text_of (AskFrame round shard labels)) [] r2 (state r3) → SendsAsk state round shard labels version before r3
  asked_so_far number links r1 r2 r3 same same' first known has second third =
      let hello : List ℕ = hello_due before.version version before.worker in
      let due : List FrameValue = due_of before shard in
      let is : shard_due (has_shard before.sent number) number links ≡ due = due_is before shard number links same same' in
      let brought : Transfers 0 0 (texts_of due) [] r1 r2 = subst (λ (fs : List FrameValue). Transfers 0 0 (texts_of fs) [] r1 r2) is second in
      let whole = went_then 0 0 0 0 _ _ _ _ (state before.line) r2 (state r3) (went_then 0 0 0 0 _ _ _ _ (state before.line) r1 r2 first brought) third in
      let said : texts_of due ++ text_of (AskFrame round shard labels) ≡ texts_of (due ++ AskFrame round shard labels ∷ []) =
      sym (texts-append due (AskFrame round shard labels ∷ []) ∙ ap (λ (t : List ℕ). texts_of due ++ t) (append-nil (text_of (AskFrame round shard labels)))) in
      let came : (hello ++ []) ++ [] ≡ hello = append-nil (hello ++ []) ∙ append-nil hello in
      record {
        went = subst (λ (t : List ℕ). Transfers 0 0 t hello (state before.line) (state r3)) said
            (subst (λ (t : List ℕ). Transfers 0 0 (texts_of due ++ text_of (AskFrame round shard labels)) t (state before.line) (state r3)) came whole);
        has = has_put version due round shard labels known (subst (HasFrames version) is has);
      }

-- the ask itself wasn't sent, after the hello and the shard
module _ {L : Type 0} (state : L → LineState) (round shard : ℕ) (labels : List ℕ) (version : ℕ) (before after : ClientState L) where
  unsent_of : (r : LineState) (e : PortFault) → HelloCame version before.version after.version
      → Transfers 0 0 (texts_of (shard_due (has_shard before.sent shard) shard (links_at before.cut shard))) (hello_due before.version version before.worker) (state before.line) r
      → HasFrames version (shard_due (has_shard before.sent shard) shard (links_at before.cut shard)) → SendingFault e r (state after.line) → Cause state e round shard labels before after
  unsent_of a1 a2 a3 a4 a5 a6 = search (arith, then_failed)

  pub unsent_ask : (number : ℕ) (links : List Link) (r1 r2 : LineState) (e : PortFault)
      → number ≡ shard → links ≡ links_at before.cut shard → Receives (hello_due before.version version before.worker) (state before.line) r1 → HelloCame version before.version after.version
      → HasFrames version (shard_due (has_shard before.sent number) number links) → Transfers 0 0 (texts_of (shard_due (has_shard before.sent number) number links)) [] r1 r2
      → SendingFault e r2 (state after.line) → Cause state e round shard labels before after
  unsent_ask number links r1 r2 e same same' first greeted has second fault = search (arith, due_is, append-nil, went_then, unsent_of)

-- the ask was put on the line `r`, and the reply, or what caused the error, came after that
module _ {L : Type 0} (state : L → LineState) (round shard : ℕ) (labels : List ℕ) (version : ℕ) (before : ClientState L) (r : L) (so_far : SendsAsk state round shard labels version before r)
    (after : ClientState L) (greeted : HelloCame version before.version after.version) where
  brings : (ends : ℕ) (bytes : List ℕ) → Transfers 0 ends [] bytes (state r) (state after.line) → BringsUpTo ends state round shard labels bytes before after
  brings ends bytes came = record { version = version; greeted = greeted; asked = r; sends = so_far; came = came }

  pub asked_of : (result : Result AnswerValue PortFault) (number : ℕ) → number ≡ shard → ((s : ℕ) → has_shard after.sent s ≡ (s == number || has_shard before.sent s))
      → after.cut ≡ before.cut → after.worker ≡ before.worker → IfOk result (λ a. Receives (text_of (AnswerFrame a)) (state r) (state after.line)) → IfOk result (λ a. IsAnswer a)
      → IfOk result (λ a. AnswersOverLine state round shard labels a before after)
  asked_of a1 a2 a3 a4 a5 a6 a7 a8 = search (arith, brings)

  pub cause_of : (result : Result AnswerValue PortFault) → IfErr result (λ e. AnswerFault e (state r) (state after.line)) → IfErr result (λ e. Cause state e round shard labels before after)
  cause_of (Ok a) fault = tt
  cause_of (Err Down) fault = elim fault [
    | inl failed ↦ inl (then_failed (state before.line) (state r) (state after.line) _ _ so_far.went failed)
    | inr ended ↦ inr (inr (ended.0, ended.1, brings 1 ended.0 ended.2))
  ]
  cause_of (Err Garbled) fault = inr (fault.0, fault.1, brings 0 fault.0 fault.2)
  cause_of (Err (Gave code)) fault = (fault.0, fault.1, brings 0 fault.0 fault.2)
  cause_of (Err Memory) fault = InReply fault.0 fault.1 (brings 0 fault.0 fault.2)
  cause_of (Err WrongHello) fault = absurd fault
  cause_of (Err TooOld) fault = absurd fault
  cause_of (Err Closed) fault = absurd fault
