-- What one ask does to its port, and what its answer is to the book that asked.
use Rattle.std.proofs.Common.{◌≡◌, ℕ, ◌+◌, ◌<◌, Bool, not, true, false, inl, inr, List, [], ◌∷◌, ◌++◌, length, refl, sym, ap, subst, ◌∙◌, append-nil, arith}
use Rattle.std.specs.Prelude.{Option, Some, None, Result, Ok, Err, IfErr, OnOk, IsSome}
use Rattle.std.specs.Result.{is_err}
use Rattle.std.proofs.lemmas.Grind.{common_steps}
use Rattle.std.proofs.lemmas.Bool.Decides.{nat_tests}
use Rattle.links.specs.declared.links.Link.{Link}
use Rattle.claim_board.specs.State.{IfHeld}
use Rattle.claim_board.specs.declared.claim.Claim.{Claim}
use Rattle.claim_board.specs.declared.claim.Claim.TheVariants.{Won, Held}
use Rattle.links.specs.AnswerValue.{AnswerValue}
use Rattle.round_core.specs.BookValue.{BookValue, refusal, is_taken, LightOffersAreTaken}
use Rattle.round_core.specs.declared.refusals.Refusal.{Refusal}
use Rattle.round_theory.specs.declared.port.Port as Port
use Rattle.round_theory.specs.declared.fault.PortFault.{PortFault}
use Rattle.round_theory.specs.declared.fault.PortFault.TheVariants.{Down, Garbled, WrongHello, Gave, Memory, TooOld, Closed}
use Rattle.round_theory.specs.Ports.{CountsAsks, AnswersAsk, IsHonestAnswer}
use Rattle.round_theory.specs.Exchanges.{Exchange, exchange_of}
use Rattle.port_rounds.specs.Lanes.{count_if}
use Rattle.port_rounds.proofs.Eaches.{one}
use Rattle.port_rounds.specs.Asks.{IsAskOf, IsExchangeOf, TakesExchange, ClosesPort, Takes, IsLight, AnswersAsks}

-- an honest answer to an ask under the book's labels
pub honest_of : (value : BookValue) (cut : List (List Link)) (round shard : ℕ) (labels : List ℕ) (t : AnswerValue) → cut ≡ value.cut → round ≡ value.round → value.labels ≡ labels
    → IsHonestAnswer cut round shard labels t → IsHonestAnswer value.cut value.round shard value.labels t
honest_of value cut round shard labels t a b c h = search arith

-- it has the light offers of the shard that it names
pub light_of : (value : BookValue) (shard : ℕ) (t : AnswerValue) → IsHonestAnswer value.cut value.round shard value.labels t → IsLight value t
light_of value shard t h = subst (λ (s : ℕ). IsHonestAnswer value.cut value.round s value.labels t) (sym h.shard_is) h

-- an answer that isn't rejected names the shard of the ask
pub names_shard : (value : BookValue) (shard : ℕ) (t : AnswerValue) → refusal value shard t ≡ None → t.shard ≡ shard
names_shard value shard t e = grind (arith, common_steps, nat_tests)

pub is_taken_of : (value : BookValue) (shard : ℕ) (t : AnswerValue) → shard < length value.cut → refusal value shard t ≡ None → Takes value t
is_taken_of value shard t within e = search (arith, names_shard)

pub not_taken : (missing taken : Bool) → missing ≡ not taken → missing ≡ true → taken ≡ false
not_taken a1 a2 a3 a4 = search arith

-- what a claim that wasn't won says about the seat
pub where_held : (r : Claim) (fact : Type 0) → ¬ (r ≡ Won) → IfHeld r (λ (by : ℕ). fact) → fact
where_held a1 a2 a3 a4 = search arith

pub honest_taken : (value : BookValue) (cut : List (List Link)) (round shard : ℕ) (labels : List ℕ) (t : AnswerValue) → LightOffersAreTaken → cut ≡ value.cut
    → round ≡ value.round → value.labels ≡ labels → is_taken value shard ≡ false
    → IsHonestAnswer cut round shard labels t → refusal value shard t ≡ None
honest_taken value cut round shard labels t law a b c missed h = (let r = honest_of value cut round shard labels t a b c h in law value shard t missed r.round_is r.shard_is r.light)

-- what a call says if it fails, and if it doesn't
pub some_of_err : {X E : Type 0} (o : Option E) (r : Result X E) → IfErr r (λ e. o ≡ Some e) → is_err r ≡ true → IsSome o
some_of_err a1 a2 a3 a4 = search arith

pub none_of_ok : {X E : Type 0} (o : Option E) (r : Result X E) → OnOk r (o ≡ None) → is_err r ≡ false → o ≡ None
none_of_ok a1 a2 a3 a4 = search arith

-- ---- one ask of an open port, about a shard that the book misses

module _ {P A : Type 0} (port : Port.Ghosts P A) (value : BookValue) (a : P) (round shard : ℕ) (labels : List ℕ)
    (round_is : round ≡ value.round) (labels_are : labels ≡ value.labels) (inside : shard < length value.cut) (missed : is_taken value shard ≡ false) (live : (port.state a).is_open ≡ true) where
  asked_of : IsAskOf value (round, shard)
  asked_of = record { round = round_is; within = inside; missed = missed }

  exchange_is : (t : AnswerValue) → IsExchangeOf value (exchange_of round shard labels t)
  exchange_is t = record { ask = asked_of; labels = labels_are }

  pub kept_one : (b : P) (t : AnswerValue) → refusal value shard t ≡ None → (port.state b).is_open ≡ true → CountsAsks 1 0 0 (port.state a) (port.state b)
      → ((before : List Exchange) → port.exchanged a before → port.exchanged b (before ++ exchange_of round shard labels t ∷ [])) → (port.honest a → port.honest b)
      → ((ends : ℕ) (before : List Exchange) → port.sound a ends before → port.sound b ends (before ++ exchange_of round shard labels t ∷ []))
      → AnswersAsks port (TakesExchange value) (ClosesPort value) a b (t ∷ [])
  kept_one b t taken still_live went exchanges stays sounds = record {
    cut = went.cut;
    worker = went.worker;
    asks = (let u = ap count_if live in let v = ap count_if still_live in omega (arith, went.asks, u, v));
    failures = omega (arith, went.failures);
    wants = omega (arith, went.wants);
    one_fault = omega (arith, went.failures, went.wants);
    exchanges = exchange_of round shard labels t ∷ [];
    kept_are = refl;
    keeps = one (TakesExchange value) (exchange_of round shard labels t) (record { asked = exchange_is t; taken = taken });
    ordered = λ i j d l b. absurd (omega arith);
    refused = None;
    opened = λ e. (live, record { failures = omega (arith, went.failures); wants = omega (arith, went.wants) }, refl);
    still = λ f. absurd (cc);
    given = λ s others g. exchanges others g;
    honest_is = stays;
    sound_is = sounds;
    why = λ e f. absurd (cc);
    why_honest = λ x e f. absurd (cc);
  }

  pub refused_one : (m b : P) (t : AnswerValue) → IsSome (refusal value shard t) → (port.honest a → refusal value shard t ≡ None)
      → CountsAsks 1 0 0 (port.state a) (port.state m) → (port.state m).last ≡ (round, shard)
      → CountsAsks 0 0 0 (port.state m) (port.state b) → (port.state b).is_open ≡ false
      → ((before : List Exchange) → port.exchanged a before → port.exchanged m (before ++ exchange_of round shard labels t ∷ []))
      → ((others : List Exchange) → port.exchanged m others → port.exchanged b others)
      → (port.honest a → port.honest m) → (port.honest m → port.honest b)
      → ((ends : ℕ) (before : List Exchange) → port.sound a ends before → port.sound m ends (before ++ exchange_of round shard labels t ∷ []))
      → ((ends : ℕ) (others : List Exchange) → port.sound m ends others → port.sound b ends others)
      → AnswersAsks port (TakesExchange value) (ClosesPort value) a b []
  refused_one m b t some none_of_honest went last shut closed exchanges exchanges' stays stays' sounds sounds' = record {
    cut = shut.cut ∙ went.cut;
    worker = shut.worker ∙ went.worker;
    asks = (let u = ap count_if live in let v = ap count_if closed in omega (arith, went.asks, shut.asks, u, v));
    failures = omega (arith, went.failures, shut.failures);
    wants = omega (arith, went.wants, shut.wants);
    one_fault = omega (arith, went.failures, shut.failures, went.wants, shut.wants);
    exchanges = [];
    kept_are = refl;
    keeps = λ i d b. absurd (omega arith);
    ordered = λ i j d l b. absurd (omega arith);
    refused = Some (exchange_of round shard labels t);
    opened = λ e. absurd (cc);
    still = λ f. absurd (cc);
    given = λ s others g. exchanges' _ (exchanges others g);
    honest_is = λ x. stays' (stays x);
    sound_is = λ ends others x. sounds' ends _ (sounds ends others x);
    why = λ e f. inr (
      exchange_of round shard labels t,
      refl,
      record { failures = omega (arith, went.failures, shut.failures); wants = omega (arith, went.wants, shut.wants) },
      record { last_is = shut.last refl ∙ last; asked = exchange_is t; refused = some },
    );
    why_honest = λ x e f. absurd (let s : IsSome {T = Refusal} None = subst (λ o. IsSome o) (none_of_honest x) some in cc);
  }

  closed_one : (b : P) (failed wanted : ℕ) → failed + wanted ≡ 1 → CountsAsks 1 failed wanted (port.state a) (port.state b) → (port.state b).last ≡ (round, shard) → (port.state b).is_open ≡ false
      → (port.honest a → port.honest b) → ((ends : ℕ) (others : List Exchange) → port.sound a ends others → port.sound b ends others) → AnswersAsks port (TakesExchange value) (ClosesPort value) a b []
  closed_one b failed wanted one went last closed stays sounds = record {
    cut = went.cut;
    worker = went.worker;
    asks = (let u = ap count_if live in let v = ap count_if closed in omega (arith, went.asks, u, v));
    failures = omega (arith, went.failures);
    wants = omega (arith, went.wants);
    one_fault = (let u = ap count_if live in omega (arith, went.failures, went.wants, one, u));
    exchanges = [];
    kept_are = refl;
    keeps = λ i d b. absurd (omega arith);
    ordered = λ i j d l b. absurd (omega arith);
    refused = None;
    opened = λ e. absurd (cc);
    still = λ f. absurd (cc);
    given = λ s others g. absurd (omega (arith, s.failures, s.wants, went.failures, went.wants, one));
    honest_is = stays;
    sound_is = λ ends others x. subst (port.sound b ends) (sym (append-nil others)) (sounds ends others x);
    why = λ e f. inl (omega (arith, went.failures, went.wants, one), refl, subst (IsAskOf value) (sym last) asked_of);
    why_honest = λ x e f. omega (arith, went.failures, went.wants, one);
  }

  pub failed_one : (b : P) (fault : PortFault) → AnswersAsk {T = AnswerValue} (Err fault) round shard (port.state a) (port.state b) → (port.honest a → port.honest b)
      → ((ends : ℕ) (others : List Exchange) → port.sound a ends others → port.sound b ends others) → AnswersAsks port (TakesExchange value) (ClosesPort value) a b []
  failed_one b TooOld went stays sounds = closed_one b 1 0 refl went.2 went.3 went.1 stays sounds
  failed_one b Closed went stays sounds = absurd (let e = went.0 in cc)
  failed_one b Memory went stays sounds = closed_one b 0 1 refl went.2 went.3 went.1 stays sounds
  failed_one b Down went stays sounds = closed_one b 1 0 refl went.2 went.3 went.1 stays sounds
  failed_one b Garbled went stays sounds = closed_one b 1 0 refl went.2 went.3 went.1 stays sounds
  failed_one b WrongHello went stays sounds = closed_one b 1 0 refl went.2 went.3 went.1 stays sounds
  failed_one b (Gave code) went stays sounds = closed_one b 1 0 refl went.2 went.3 went.1 stays sounds
