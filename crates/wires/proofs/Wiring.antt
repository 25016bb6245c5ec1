-- A wire from call to call.
use Rattle.std.proofs.Common.{◌≡◌, ◌≢◌, ℕ, ◌<◌, List, [], ◌∷◌, ◌++◌, length, refl, sym, ap, subst, ◌∙◌, append_assoc, inl, inr, arith}
use Rattle.std.specs.Prelude.{◌+◌, None, true, false}
use Rattle.std.proofs.lemmas.List.{length-append}
use Rattle.limits.specs.declared.TheConstants.{MAX_WORKERS}
use Rattle.links.specs.declared.links.Link.{Link}
use Rattle.links.specs.Link.{EndsUpTo}
use Rattle.links.specs.Cut.{links_at}
use Rattle.links.specs.AnswerValue.{AnswerValue}
use Rattle.frames.specs.FrameValue.{FrameValue, HelloFrame, ShardFrame, AskFrame, AnswerFrame, FaultFrame}
use Rattle.frames.specs.FrameText.{text_of}
use Rattle.frames.specs.Lawful.{IsShard, IsAsk}
use Rattle.round_theory.specs.declared.fault.PortFault.{PortFault}
use Rattle.round_theory.specs.declared.fault.PortFault.TheVariants.{Closed}
use Rattle.claim_board.specs.Shards.{has_shard}
use Rattle.wires.specs.Lines.{LineState, IsFresh, HasKnownBytes, Counted, ServesSoFar}
use Rattle.round_theory.specs.Ports.{IsHonestAnswer, failure_of, want_of}
use Rattle.wires.specs.Causes.{IsWanting, Cause, CountedFault, IsBlameless}
use Rattle.round_theory.specs.Exchanges.{Exchange, exchange_of}
use Rattle.wires.specs.Clients.{ClientState, seen_client, shard_due, frames_put, Brings, EndsAfterAsk, AnswersOverLine}
use Rattle.wires.specs.Wires.{WireState, last_ask, IsQuiet, IsCountedWire, IsFaultless, IsTrueSoFar, WireCause}
use Rattle.wires.proofs.Asking.{all_brought, step_more, honest_answer, blameless}

last_put : (last : ℕ × ℕ) (said : List FrameValue) (round shard : ℕ) (labels : List ℕ) → last_ask last (said ++ AskFrame round shard labels ∷ []) ≡ (round, shard)
last_put last [] round shard labels = refl
last_put last (AskFrame r s ls ∷ said) round shard labels = last_put (r, s) said round shard labels
last_put last (HelloFrame v w ∷ said) round shard labels = last_put last said round shard labels
last_put last (ShardFrame n ls ∷ said) round shard labels = last_put last said round shard labels
last_put last (AnswerFrame a ∷ said) round shard labels = last_put last said round shard labels
last_put last (FaultFrame r s c ∷ said) round shard labels = last_put last said round shard labels

-- an ask over an open wire never fails with `Closed`
pub not_closed : {L : Type 0} (state : L → LineState) (round shard : ℕ) (labels : List ℕ) (before after : ClientState L) (fault : PortFault)
    → Cause state fault round shard labels before after → fault ≢ Closed
not_closed state round shard labels before after fault cause same = subst (λ (f : PortFault). Cause state f round shard labels before after) same cause

-- ---- by what the line counts

-- what was counted in two steps, none of it in the first
quiet_first : (failed ended : ℕ) (a b c : LineState) → Counted 0 0 a b → Counted failed ended b c → Counted failed ended a c
quiet_first failed ended a b c first behind = (omega (arith, first.0, behind.0), omega (arith, first.1, behind.1))

module _ {L : Type 0} (state : L → LineState) (round shard : ℕ) (labels : List ℕ) (before after : ClientState L) where
  brought_counted : (bytes : List ℕ) → Brings state round shard labels bytes before after → Counted 0 0 (state before.line) (state after.line)
  brought_counted bytes brought = (let first = brought.sends.went in let behind = brought.came in (omega (arith, first.failures, behind.failures), omega (arith, first.ends, behind.ends)))

  pub answer_counted : (a : AnswerValue) → AnswersOverLine state round shard labels a before after → Counted 0 0 (state before.line) (state after.line)
  answer_counted a asked = brought_counted (text_of (AnswerFrame a)) asked.brought

  ended_counted : (bytes : List ℕ) → EndsAfterAsk state round shard labels bytes before after → Counted 0 1 (state before.line) (state after.line)
  ended_counted bytes ended = (let first = ended.sends.went in let behind = ended.came in (omega (arith, first.failures, behind.failures), omega (arith, first.ends, behind.ends)))

  wanting_counted : IsWanting state round shard labels before after → Counted 0 0 (state before.line) (state after.line)
  wanting_counted a1 = search (arith, brought_counted)

  pub cause_counted : (fault : PortFault) → Cause state fault round shard labels before after → CountedFault fault (state before.line) (state after.line)
  cause_counted a1 a2 = search (arith, ended_counted, brought_counted, wanting_counted)

module _ {L : Type 0} (state : L → LineState) (old new : WireState L) (start : LineState) (live : old.is_open ≡ true) where
  quiet_open : IsCountedWire state old start → IsQuiet state old start
  quiet_open counted = search arith

  -- an ask over an open wire that was answered, and one that wasn't
  pub quiet_more : Counted 0 0 (state old.client.line) (state new.client.line) → new.failures ≡ old.failures → new.wants ≡ old.wants → IsCountedWire state old start → IsCountedWire state new start
  quiet_more more failures wants counted = search (arith, quiet_open, quiet_first)

  pub faulted_more : (fault : PortFault) → CountedFault fault (state old.client.line) (state new.client.line) → new.is_open ≡ false
      → new.failures ≡ old.failures + failure_of fault → new.wants ≡ old.wants + want_of fault
      → IsCountedWire state old start → IsCountedWire state new start
  faulted_more fault more closed failures wants counted = search (arith, quiet_open, quiet_first)

module _ {L : Type 0} (state : L → LineState) where
  pub new_quiet : (wire : WireState L) → wire.failures ≡ 0 → wire.wants ≡ 0 → IsCountedWire state wire (state wire.client.line)
  new_quiet wire failures wants = inl (record { counted = (omega arith, omega arith); failures = failures; wants = wants })

  pub counted_shut : (wire : WireState L) (start : LineState) → IsCountedWire state wire start → IsCountedWire state (record wire { is_open = false }) start
  counted_shut wire start counted = search arith

module _ {L : Type 0} (state : L → LineState) where
  -- a wire before its first ask, over a fresh line whose bytes are known
  pub fresh_faultless : (wire : WireState L) (ends : ℕ) → IsFresh (state wire.client.line) → HasKnownBytes (state wire.client.line)
      → (state wire.client.line).ends ≡ ends → wire.client.version ≡ None → ((s : ℕ) → has_shard wire.client.sent s ≡ false)
      → wire.asks ≡ 0 → wire.failures ≡ 0 → wire.wants ≡ 0 → wire.last ≡ (0, 0) → IsFaultless state ends wire [] []
  fresh_faultless wire ends fresh known ends_are quiet none asks failures wants last = search (arith)

  pub faultless_open : (kind : PortFault → Type 0) (wire : WireState L) (ends : ℕ) (exchanges : List Exchange) → wire.is_open ≡ true → IsTrueSoFar state kind wire ends exchanges
      → (said : List FrameValue) × IsFaultless state ends wire said exchanges
  faultless_open kind wire ends exchanges live went = search arith

  -- a wire that is shut stays what it was
  pub went_shut : (kind : PortFault → Type 0) (wire : WireState L) (ends : ℕ) (exchanges : List Exchange) → IsTrueSoFar state kind wire ends exchanges
      → IsTrueSoFar state kind (record wire { is_open = false }) ends exchanges
  went_shut kind wire ends exchanges went = search arith

  -- ---- one ask of an open wire

  module _ (round shard : ℕ) (labels : List ℕ) (old new : WireState L) (in_cut : shard < length old.client.cut) (live : old.is_open ≡ true)
      (asks : new.asks ≡ old.asks + 1) (last : new.last ≡ (round, shard)) where
    -- it was answered
    module _ (is : IsShard shard (links_at old.client.cut shard)) (ask : IsAsk round shard labels) (a : AnswerValue) (asked : AnswersOverLine state round shard labels a old.client new.client) where
      pub answered : (kind kind' : PortFault → Type 0) (ends : ℕ) (exchanges : List Exchange) → new.failures ≡ old.failures → new.wants ≡ old.wants → IsTrueSoFar state kind old ends exchanges
          → IsTrueSoFar state kind' new ends (exchanges ++ exchange_of round shard labels a ∷ [])
      answered kind kind' ends exchanges failures wants went =
          let (said, faultless) = faultless_open kind old ends exchanges live went in
          let first : List FrameValue = shard_due (has_shard old.client.sent shard) shard (links_at old.client.cut shard) in
          inl (
            said ++ frames_put (seen_client state old.client) round shard labels,
            record {
              in_step = step_more state round shard labels a old.client new.client asked in_cut is ask said exchanges faultless.in_step;
              ends_are = omega (arith, (all_brought state round shard labels _ old.client new.client asked.brought).ends, faultless.ends_are);
              asks = omega (arith, asks, faultless.asks, length-append exchanges (exchange_of round shard labels a ∷ []));
              failures = failures ∙ faultless.failures;
              wants = wants ∙ faultless.wants;
              last = last ∙ sym (ap (last_ask (0, 0)) (sym (append_assoc said first (AskFrame round shard labels ∷ []))) ∙ last_put (0, 0) (said ++ first) round shard labels);
            },
          )

    -- it wasn't
    module _ (fault : PortFault) (cause : WireCause state fault round shard labels old new) where
      pub failed : (kind kind' : PortFault → Type 0) (ends : ℕ) (exchanges : List Exchange) → kind' fault → new.is_open ≡ false
          → new.client.cut ≡ old.client.cut → new.client.worker ≡ old.client.worker
          → new.failures ≡ old.failures + failure_of fault → new.wants ≡ old.wants + want_of fault → IsTrueSoFar state kind old ends exchanges → IsTrueSoFar state kind' new ends exchanges
      failed kind kind' ends exchanges is_kind closed cut worker failures wants went =
          let (said, faultless) = faultless_open kind old ends exchanges live went in
          let round_is : round ≡ new.last.0 = ap (λ (p : ℕ × ℕ). p.0) (sym last) in
          let shard_is : shard ≡ new.last.1 = ap (λ (p : ℕ × ℕ). p.1) (sym last) in
          inr (
            closed,
            record {
              before = old;
              said = said;
              faultless = faultless;
              was_open = live;
              same_cut = cut;
              same_worker = worker;
              fault = fault;
              is_kind = is_kind;
              in_cut = subst (λ (s : ℕ). s < length new.client.cut) shard_is (subst (λ (c : List (List Link)). shard < length c) (sym cut) in_cut);
              labels = labels;
              cause = subst (λ (r : ℕ). WireCause state fault r new.last.1 labels old new) round_is (subst (λ (s : ℕ). WireCause state fault round s labels old new) shard_is cause);
              asks = asks;
              failures = omega (arith, failures, faultless.failures);
              wants = omega (arith, wants, faultless.wants);
            },
          )

  -- ---- what follows over a faithful line, whatever the wire counts

  module _ (round shard : ℕ) (labels : List ℕ) (old : WireState L) (new : ClientState L) (in_cut : shard < length old.client.cut) (live : old.is_open ≡ true)
      (is : IsShard shard (links_at old.client.cut shard)) (ask : IsAsk round shard labels)
      (below : old.client.worker < MAX_WORKERS) (kind : PortFault → Type 0) where
    -- what is known of the line at the end of the ask is enough
    pub served_answer : (a : AnswerValue) → AnswersOverLine state round shard labels a old.client new → (ends : ℕ) (exchanges : List Exchange)
        → IsTrueSoFar state kind old ends exchanges → ServesSoFar old.client.worker (state new.line)
        → IsHonestAnswer old.client.cut round shard labels a
    served_answer a asked ends exchanges went serves =
        let (said, faultless) = faultless_open kind old ends exchanges live went in
        honest_answer state round shard labels old.client new said exchanges faultless.in_step below serves in_cut is ask a asked

    module _ (line line' : ℕ → Type 0) (kept : (w : ℕ) → line w → line' w) (serves : (w : ℕ) → line' w → ServesSoFar w (state new.line))
        (honest : line old.client.worker × ((ends : ℕ) × (exchanges : List Exchange) × IsTrueSoFar state kind old ends exchanges)) where
      pub light_answer : (a : AnswerValue) → AnswersOverLine state round shard labels a old.client new → IsHonestAnswer old.client.cut round shard labels a
      light_answer a asked = search (arith, served_answer)

      pub blameless_fault : (fault : PortFault) → EndsUpTo (length labels) (links_at old.client.cut shard) → Cause state fault round shard labels old.client new → IsBlameless fault
      blameless_fault fault ends cause = search (arith, faultless_open, blameless)
