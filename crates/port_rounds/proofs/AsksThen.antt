-- Asks, and more asks after them.
use Rattle.std.proofs.Common.{◌≡◌, ℕ, zero, suc, ◌≤◌, ◌⊎◌, inl, inr, Bool, true, false, List, [], ◌∷◌, ◌++◌, refl, ap, sym, subst, ◌∙◌, arith, append_assoc, length-append, rules}
use Rattle.std.specs.Prelude.{All, Option, Some, None, option_to_list}
use Rattle.std.proofs.lemmas.List.{append-nil, map-append}
use Rattle.std.proofs.lemmas.List.Elements.{All-nil, All-append, All-head, All-tail}
use Rattle.links.specs.AnswerValue.{AnswerValue}
use Rattle.round_theory.specs.declared.port.Port as Port
use Rattle.round_theory.specs.Exchanges.{Exchange, answers_of}
use Rattle.port_rounds.specs.Lanes.{count_if}
use Rattle.round_core.specs.BookValue.{BookValue}
use Rattle.port_rounds.specs.Asks.{AnswersAsks, AsksFor, TakesExchange, ClosesPort, AreInRounds, SameFaults, answered}

pub either : (v : Bool) → (v ≡ true) ⊎ (v ≡ false)
either a1 = search arith

-- exchanges of no later rounds than others
abbrev pub ComeFirst : List Exchange → List Exchange → Type 0
ComeFirst xs ys = All (λ (x : Exchange). All (λ (y : Exchange). x.round ≤ y.round) ys) xs

-- those of one book come in any order
pub one_round : (value : BookValue) (xs ys : List Exchange) → All (TakesExchange value) xs → All (TakesExchange value) ys → ComeFirst xs ys
one_round value xs ys first second i d b j e c = omega (arith, (first i d b).asked.ask.round, (second j e c).asked.ask.round)

first_of_all : (x : Exchange) (zs : List Exchange) → All (λ (y : Exchange). x.round ≤ y.round) zs → AreInRounds zs → AreInRounds (x ∷ zs)
first_of_all a1 a2 a3 a4 a5 a6 a7 a8 a9 = search arith

in_rounds_then : (xs ys : List Exchange) → AreInRounds xs → AreInRounds ys → ComeFirst xs ys → AreInRounds (xs ++ ys)
in_rounds_then [] ys p q first = q
in_rounds_then (x ∷ xs) ys p q first =
    let Later : Exchange → Type 0 = λ (y : Exchange). x.round ≤ y.round in
    first_of_all x (xs ++ ys) (All-append Later xs ys (λ j d b. p 0 (suc j) d (omega arith) (omega arith)) (All-head (λ (z : Exchange). All (λ (y : Exchange). z.round ≤ y.round) ys) x xs first))
    (in_rounds_then xs ys (λ i j d l b. p (suc i) (suc j) d (omega arith) (omega arith)) q (All-tail (λ (z : Exchange). All (λ (y : Exchange). z.round ≤ y.round) ys) x xs first))

-- exchanges of two parts, with no rejected answer in the first
both_parts : (others xs ys : List Exchange) (last last' : Option Exchange) → last ≡ None → (others ++ answered xs last) ++ answered ys last' ≡ others ++ answered (xs ++ ys) last'
both_parts others xs ys last last' none = search (arith, append-nil, append_assoc)

first_part : (others xs ys : List Exchange) (last last' : Option Exchange) → ys ≡ [] → last' ≡ None → (others ++ answered xs last) ++ answered ys last' ≡ others ++ answered xs last
first_part others xs ys last last' no_more none = search (arith, append-nil)

module _ {P A : Type 0} (port : Port.Ghosts P A) (keeping : Exchange → Type 0) (closing : ℕ × ℕ → Option Exchange → Type 0) where
  pub stayed : (a : P) → AnswersAsks port keeping closing a a []
  stayed a = record {
    cut = refl;
    worker = refl;
    asks = search (rules, arith);
    failures = omega arith;
    wants = omega arith;
    one_fault = omega arith;
    exchanges = [];
    kept_are = refl;
    keeps = All-nil keeping;
    ordered = λ i j d l b. absurd (omega arith);
    refused = None;
    opened = λ t. (t, record { failures = refl; wants = refl }, refl);
    still = λ f. (refl, refl, refl);
    given = λ s others g. subst (port.exchanged a) (sym (append-nil others)) g;
    honest_is = λ x. x;
    sound_is = λ ends others x. subst (port.sound a ends) (sym (append-nil others)) x;
    why = λ t f. absurd (cc);
    why_honest = λ x t f. absurd (cc);
  }

  module _ (a b c : P) (xs ys : List AnswerValue) (p : AnswersAsks port keeping closing a b xs) (q : AnswersAsks port keeping closing b c ys) where
    -- counts that stayed the same over both parts did so in each
    each_stood : SameFaults (port.state a) (port.state c) → SameFaults (port.state a) (port.state b) × SameFaults (port.state b) (port.state c)
    each_stood s = search arith

    -- the second part begins with an open port
    then_open : ComeFirst p.exchanges q.exchanges → (port.state b).is_open ≡ true → AnswersAsks port keeping closing a c (xs ++ ys)
    then_open first e =
        let s = p.opened e in
        let joined = λ (others : List Exchange). both_parts others p.exchanges q.exchanges p.refused q.refused s.2 in
        record {
          cut = q.cut ∙ p.cut;
          worker = q.worker ∙ p.worker;
          asks = omega (arith, length-append xs ys, p.asks, q.asks);
          failures = omega (arith, p.failures, q.failures);
          wants = omega (arith, p.wants, q.wants);
          one_fault = (let t = q.one_fault in let u = ap count_if s.0 in let v = ap count_if e in omega (arith, t, u, v, s.1.failures, s.1.wants));
          exchanges = p.exchanges ++ q.exchanges;
          kept_are = ap (λ zs. zs ++ ys) p.kept_are ∙ (ap (λ zs. answers_of p.exchanges ++ zs) q.kept_are ∙ sym (map-append (λ (x : Exchange). x.answer) p.exchanges q.exchanges));
          keeps = All-append keeping p.exchanges q.exchanges p.keeps q.keeps;
          ordered = in_rounds_then p.exchanges q.exchanges p.ordered q.ordered first;
          refused = q.refused;
          opened = λ t. (
              let r = q.opened t in
              (s.0, record { failures = r.1.failures ∙ s.1.failures; wants = r.1.wants ∙ s.1.wants }, r.2));
          still = λ f. absurd (let o = s.0 in cc);
          given = λ t others g. (let h = each_stood t in subst (port.exchanged c) (joined others) (q.given h.1 _ (p.given h.0 others g)));
          honest_is = λ x. q.honest_is (p.honest_is x);
          sound_is = λ ends others x. subst (port.sound c ends) (joined others) (q.sound_is ends _ (p.sound_is ends others x));
          why = λ t f. elim (q.why e f) [
            | inl r ↦ inl (omega (arith, r.0, p.failures, p.wants), r.1, r.2)
            | inr r ↦ inr (r.0, r.1, record { failures = r.2.failures ∙ s.1.failures; wants = r.2.wants ∙ s.1.wants }, r.3)
          ];
          why_honest = λ x t f. (let r = q.why_honest (p.honest_is x) e f in omega (arith, r, p.failures, p.wants));
        }

    -- or with one that was closed, so there is no second part
    then_closed : (port.state b).is_open ≡ false → AnswersAsks port keeping closing a c (xs ++ ys)
    then_closed e = search (arith, first_part, length-append, append-nil, each_stood)

    pub asks_then : ComeFirst p.exchanges q.exchanges → AnswersAsks port keeping closing a c (xs ++ ys)
    asks_then first = elim (either (port.state b).is_open) [ inl e ↦ then_open first e | inr e ↦ then_closed e ]

pub none_asked : {P A : Type 0} (port : Port.Ghosts P A) (value : BookValue) (shard : ℕ) (a : P) → AsksFor port value shard a a None
none_asked port value shard a = search (arith, stayed)
