-- What passes did over all lanes.
use Rattle.std.specs.List.{AllZip}
use Rattle.std.proofs.Common.{◌≡◌, ℕ, zero, suc, ◌<◌, ◌≤◌, Bool, true, false, List, [], ◌∷◌, ◌++◌, length, get_or, refl, ap, sym, subst, ◌∙◌, inl, inr, arith, length-append}
use Rattle.std.specs.Prelude.{All, Contains, map, IsSome, Option, Some, None}
use Rattle.std.proofs.lemmas.List.{get_or-map}
use Rattle.std.proofs.lemmas.List.Sums.{sum_by-cons}
use Rattle.std.proofs.lemmas.List.Elements.{All-append, Contains-append_left, Contains-append_right, Contains-append_cases}
use Rattle.links.specs.AnswerValue.{AnswerValue}
use Rattle.links.specs.declared.links.Link.{Link}
use Rattle.round_core.specs.BookValue.{BookValue, is_taken, with_answer, refusal}
use Rattle.round_theory.specs.declared.port.Port as Port
use Rattle.round_theory.specs.Ports.{PortState}
use Rattle.round_theory.specs.Exchanges.{Exchange}
use Rattle.port_rounds.specs.Lanes.{LaneState, count_if, kept_answers, ask_count, open_count}
use Rattle.port_rounds.specs.Asks.{AnswersAsks, IsAskOf, IsExchangeOf, TakesExchange, ClosesPort, IsLight, shards_of}
use Rattle.port_rounds.specs.Bounds.{IsAskable}
use Rattle.port_rounds.specs.Ferries.{RunsFerry}
use Rattle.port_rounds.specs.Seating.{LosesSeat}
use Rattle.port_rounds.specs.Passes.{AnswersOnce, RunsPasses}
use Rattle.port_rounds.specs.Taking.{with_answers, TakesAll}
use Rattle.port_rounds.proofs.Takes.{Distinct, taken_all, taken_both, taken_before, heard_append, kept_at, kept_to}
use Rattle.port_rounds.proofs.Once.{was_free, is_taken_now, once_of, once_then}
use Rattle.port_rounds.proofs.AsksThen.{stayed, asks_then, one_round}
use Rattle.port_rounds.proofs.Eaches.{each_at, each_length}
use Rattle.port_rounds.proofs.Seated.{counted}

pub kept_from : {P : Type 0} (lanes : List (LaneState P)) (t : AnswerValue) → Contains (kept_answers lanes) t → (i : ℕ) × (i < length lanes) × Contains (get_or (map (λ l. l.kept) lanes) i []) t
kept_from [] t h = absurd (omega arith)
kept_from (l ∷ ls) t h = elim (Contains-append_cases l.kept (kept_answers ls) t h) [
  | inl a ↦ (0, omega arith, a)
  | inr b ↦ (let r = kept_from ls t b in (suc r.0, omega arith, r.2))
]

pub kept_few : {P : Type 0} (lanes : List (LaneState P)) (i : ℕ) → length (get_or (map (λ l. l.kept) lanes) i []) ≤ length (kept_answers lanes)
kept_few [] i = omega arith
kept_few (l ∷ ls) zero = omega (arith, length-append l.kept (kept_answers ls))
kept_few (l ∷ ls) (suc i) = omega (arith, kept_few ls i, length-append l.kept (kept_answers ls))

-- each port is as it was
pub record SamePort {P : Type 0} (x y : LaneState P) : Type 0 where
  pub port : y.port ≡ x.port

pub same_asks : {P : Type 0} (state : P → PortState) (xs ys : List (LaneState P)) → AllZip SamePort xs ys → (ask_count state ys ≡ ask_count state xs) × (open_count state ys ≡ open_count state xs)
same_asks state [] [] p = (refl, refl)
same_asks state [] (y ∷ ys) p = absurd p
same_asks state (x ∷ xs) [] p = absurd p
same_asks {P} state (x ∷ xs) (y ∷ ys) p =
    let r = same_asks state xs ys p.1 in
    let e : y.port ≡ x.port = p.0.port in
    let a : (state y.port).asks ≡ (state x.port).asks = ap (λ q. (state q).asks) e in
    let b : count_if (state y.port).is_open ≡ count_if (state x.port).is_open = ap (λ q. count_if (state q).is_open) e in (
      omega (arith, r.0, a, sum_by-cons (λ (l : LaneState P). (state l.port).asks) y ys, sum_by-cons (λ (l : LaneState P). (state l.port).asks) x xs),
      omega (arith, r.1, b, sum_by-cons (λ (l : LaneState P). count_if (state l.port).is_open) y ys, sum_by-cons (λ (l : LaneState P). count_if (state l.port).is_open) x xs),
    )

pub same_kept : {P : Type 0} (xs ys : List (LaneState P)) → AllZip LosesSeat xs ys → kept_answers ys ≡ kept_answers xs
same_kept [] [] p = refl
same_kept [] (y ∷ ys) p = absurd p
same_kept (x ∷ xs) [] p = absurd p
same_kept (x ∷ xs) (y ∷ ys) p = ap (λ v. v ++ kept_answers ys) p.0.kept ∙ ap (λ zs. x.kept ++ zs) (same_kept xs ys p.1)

fewer : (a b : Bool) → (b ≡ true → a ≡ true) → count_if b ≤ count_if a
fewer a1 a2 a3 = search arith

module _ {P A : Type 0} (port : Port.Ghosts P A) where
  -- no ferry opens a port
  fewer_open : (value : BookValue) (xs ys : List (LaneState P)) → AllZip (RunsFerry port value) xs ys → open_count port.state ys ≤ open_count port.state xs
  fewer_open value [] [] p = omega arith
  fewer_open value [] (y ∷ ys) p = absurd p
  fewer_open value (x ∷ xs) [] p = absurd p
  fewer_open value (x ∷ xs) (y ∷ ys) p =
      omega (
        arith,
        fewer_open value xs ys p.1,
        fewer (port.state x.port).is_open (port.state y.port).is_open (λ t. (p.0.asked.opened t).0),
        sum_by-cons (λ (l : LaneState P). count_if (port.state l.port).is_open) y ys,
        sum_by-cons (λ (l : LaneState P). count_if (port.state l.port).is_open) x xs,
      )

  -- ferries between steps that ask no port
  pub passed_of : (old new : BookValue) (xs ys zs ws : List (LaneState P)) → AllZip SamePort xs ys → AllZip (RunsFerry port old) ys zs → AllZip SamePort zs ws
      → Distinct (shards_of (kept_answers zs)) → TakesAll old (kept_answers zs) → new ≡ with_answers old (kept_answers zs) → RunsPasses port old new xs ws
  passed_of old new xs ys zs ws before f after apart fresh value =
      let l1 = each_length SamePort xs ys before in
      let l2 = each_length (RunsFerry port old) ys zs f in
      let l3 = each_length SamePort zs ws after in
      record {
        answers = kept_answers zs;
        answers_at = kept_at zs;
        same_lanes = l3 ∙ (l2 ∙ l1);
        each = λ i d b. (
            let v = (each_at (RunsFerry port old) ys zs f i d (omega arith)).asked in
            let e = (each_at SamePort xs ys before i d b).port in
            let g = (each_at SamePort zs ws after i d (omega arith)).port in
            let m : kept_at zs i ≡ (get_or zs i d).kept = get_or-map (λ (l : LaneState P). l.kept) zs i d [] (omega arith) in
            subst (λ n. AnswersAsks port (TakesExchange old) (ClosesPort old) (get_or xs i d).port (get_or ws i d).port n) (sym m)
            (subst (λ p. AnswersAsks port (TakesExchange old) (ClosesPort old) p (get_or ws i d).port (get_or zs i d).kept) e
            (subst (λ q. AnswersAsks port (TakesExchange old) (ClosesPort old) (get_or ys i d).port q (get_or zs i d).kept) (sym g) v)));
        once = subst (λ n. AnswersOnce n (kept_at zs)) (l2 ∙ l1) (once_of zs apart);
        few = λ i. kept_few zs i;
        reached = λ i t b h. kept_to zs i t (omega arith) h;
        given = λ t h. (let r = kept_from zs t h in (r.0, omega (arith, r.1), r.2));
        asks = (
            let a = same_asks port.state xs ys before in
            let b = same_asks port.state zs ws after in
            let c = counted port old ys zs f in
            omega (arith, a.0, a.1, b.0, b.1, c));
        never_opened = (
            let a = same_asks port.state xs ys before in
            let b = same_asks port.state zs ws after in
            omega (arith, a.1, b.1, fewer_open old ys zs f));
        taken = fresh;
        value = value;
        missed = rw value (taken_all old (kept_answers zs) fresh);
        light_at = λ i d b h. (
            let e = (each_at SamePort xs ys before i d b).port in
            let v = (each_at (RunsFerry port old) ys zs f i d (omega arith)).light (subst port.honest (sym e) h) in
            let m : kept_at zs i ≡ (get_or zs i d).kept = get_or-map (λ (l : LaneState P). l.kept) zs i d [] (omega arith) in
            subst (λ ts. All (IsLight old) ts) (sym m) v);
      }

  pub passed_none : (value : BookValue) (xs ys : List (LaneState P)) → AllZip SamePort xs ys → RunsPasses port value value xs ys
  passed_none value xs ys same = record {
    answers = [];
    answers_at = λ i. [];
    same_lanes = each_length SamePort xs ys same;
    each = λ i d b. (let e = (each_at SamePort xs ys same i d b).port in subst (λ q. AnswersAsks port (TakesExchange value) (ClosesPort value)
        (get_or xs i d).port q []) (sym e) (stayed port (TakesExchange value) (ClosesPort value) (get_or xs i d).port));
    few = λ i. omega arith;
    reached = λ i t b h. absurd (omega arith);
    given = λ t h. absurd (omega arith);
    asks = (let a = same_asks port.state xs ys same in omega (arith, a.0, a.1));
    never_opened = (let a = same_asks port.state xs ys same in omega (arith, a.1));
    once = λ i j k l d bi bj bk bl same. absurd (omega arith);
    taken = tt;
    value = refl;
    missed = omega arith;
    light_at = λ i d b h k e below. absurd (omega arith);
  }

-- answers change nothing else in the book
pub record SameRound (p q : BookValue) : Type 0 where
  pub round : q.round ≡ p.round
  pub cut : q.cut ≡ p.cut
  pub labels : q.labels ≡ p.labels

pub same_round : (p : BookValue) (ts : List AnswerValue) → SameRound p (with_answers p ts)
same_round p [] = record { round = refl; cut = refl; labels = refl }
same_round p (t ∷ ts) = (let r = same_round (with_answer p t) ts in record { round = r.round; cut = r.cut; labels = r.labels })

pub heard_same : (p q : BookValue) (ts : List AnswerValue) → q ≡ with_answers p ts → SameRound p q
heard_same p q ts e = search (arith, same_round)

pub askable_still : (p q : BookValue) → SameRound p q → IsAskable p → IsAskable q
askable_still p q s r = record { some_shard = rw s.cut r.some_shard; ends = rw (s.cut, s.labels) r.ends; round = rw s.round r.round }

refusal_of : (r r' : ℕ) (cut cut' : List (List Link)) (labels labels' : List ℕ) (taken taken' : List Bool) (answers answers' : List AnswerValue) (s : ℕ)
    (t : AnswerValue) → r' ≡ r → cut' ≡ cut → labels' ≡ labels → get_or taken s true ≡ false → get_or taken' s true ≡ false
    → refusal (record { round = r'; cut = cut'; labels = labels'; taken = taken'; answers = answers' }) s t ≡ refusal
    (record { round = r; cut = cut; labels = labels; taken = taken; answers = answers }) s t
refusal_of r r' cut cut' labels labels' taken taken' answers answers' s t a b c d e = rw (a, b, c, d, e) refl

ask_before : (p : BookValue) (ts : List AnswerValue) (w : ℕ × ℕ) → IsAskOf (with_answers p ts) w → IsAskOf p w
ask_before p ts w r = search (arith, same_round, taken_before)

exchange_before : (p : BookValue) (ts : List AnswerValue) (x : Exchange) → IsExchangeOf (with_answers p ts) x → IsExchangeOf p x
exchange_before p ts x r = record { ask = ask_before p ts (x.round, x.shard) r.ask; labels = r.labels ∙ (same_round p ts).labels }

-- the book says about an answer to such an ask what it said before
same_refusal : (p : BookValue) (ts : List AnswerValue) (x : Exchange) → IsExchangeOf (with_answers p ts) x → refusal (with_answers p ts) x.shard x.answer ≡ refusal p x.shard x.answer
same_refusal p ts x r = search (arith, same_round, refusal_of, taken_before)

closing_before : (p : BookValue) (ts : List AnswerValue) (w : ℕ × ℕ) (o : Option Exchange) → ClosesPort (with_answers p ts) w o → ClosesPort p w o
closing_before a1 a2 a3 a4 a5 = search (arith, ask_before, exchange_before, same_refusal)

kept_before : (p : BookValue) (ts : List AnswerValue) (x : Exchange) → TakesExchange (with_answers p ts) x → TakesExchange p x
kept_before p ts x r = record { asked = exchange_before p ts x r.asked; taken = sym (same_refusal p ts x r.asked) ∙ r.taken }

pub light_before : (p : BookValue) (ts : List AnswerValue) (t : AnswerValue) → IsLight (with_answers p ts) t → IsLight p t
light_before p ts t r = (let s = same_round p ts in rw (s.cut, s.round, s.labels) at r)

abbrev pub asks_more : {P A : Type 0} (port : Port.Ghosts P A) (keeping keeping' : Exchange → Type 0) (R Q : ℕ × ℕ → Option Exchange → Type 0)
    → ((x : Exchange) → keeping x → keeping' x) → ((w : ℕ × ℕ) (o : Option Exchange) → R w o → Q w o) → (a b : P) (kept : List AnswerValue)
    → AnswersAsks port keeping R a b kept → AnswersAsks port keeping' Q a b kept
asks_more port keeping keeping' R Q k h a b kept v = record {
  cut = v.cut;
  worker = v.worker;
  asks = v.asks;
  failures = v.failures;
  wants = v.wants;
  one_fault = v.one_fault;
  exchanges = v.exchanges;
  kept_are = v.kept_are;
  keeps = λ i d below. k (get_or v.exchanges i d) (v.keeps i d below);
  ordered = v.ordered;
  refused = v.refused;
  opened = v.opened;
  still = v.still;
  given = v.given;
  honest_is = v.honest_is;
  sound_is = v.sound_is;
  why = λ t f. elim (v.why t f) [ inl r ↦ inl (r.0, r.1, h (port.state b).last None r.2) | inr r ↦ inr (r.0, r.1, r.2, h (port.state b).last (Some r.0) r.3) ];
  why_honest = v.why_honest;
}

-- one pass after another
module _ {P A : Type 0} (port : Port.Ghosts P A) where
  pub passed_then : (p q r : BookValue) (xs ys zs : List (LaneState P)) → RunsPasses port p q xs ys → RunsPasses port q r ys zs → RunsPasses port p r xs zs
  passed_then p q r xs ys zs u v = record {
    answers = u.answers ++ v.answers;
    answers_at = λ i. u.answers_at i ++ v.answers_at i;
    same_lanes = v.same_lanes ∙ u.same_lanes;
    each = λ i d b. (
        let w = v.each i d (let e = u.same_lanes in omega arith) in
        asks_then port (TakesExchange p) (ClosesPort p) _ _ _ (u.answers_at i) (v.answers_at i) (u.each i d b)
        (asks_more port (TakesExchange q) (TakesExchange p) (ClosesPort q) (ClosesPort p) (λ x k. kept_before p u.answers x (subst (λ value. TakesExchange value x) u.value k))
        (λ w o k. closing_before p u.answers w o (subst (λ value. ClosesPort value w o) u.value k)) _ _ (v.answers_at i) w)
        (one_round p (u.each i d b).exchanges w.exchanges (u.each i d b).keeps
        (λ j e c. kept_before p u.answers (get_or w.exchanges j e) (subst (λ value. TakesExchange value (get_or w.exchanges j e)) u.value (w.keeps j e c)))));
    given = λ t h. elim (Contains-append_cases u.answers v.answers t h) [
      | inl a ↦ (let k = u.given t a in (k.0, k.1, Contains-append_left (u.answers_at k.0) (v.answers_at k.0) t k.2))
      | inr a ↦ (let k = v.given t a in (k.0, (let e = u.same_lanes in let l = k.1 in omega arith), Contains-append_right (u.answers_at k.0) (v.answers_at k.0) t k.2))
    ];
    reached = λ i t b h. elim (Contains-append_cases (u.answers_at i) (v.answers_at i) t h) [
      | inl a ↦ Contains-append_left u.answers v.answers t (u.reached i t b a)
      | inr a ↦ Contains-append_right u.answers v.answers t (v.reached i t (let e = u.same_lanes in omega arith) a)
    ];
    few = λ i. (let a = u.few i in let b = v.few i in omega (arith, length-append u.answers v.answers, length-append (u.answers_at i) (v.answers_at i)));
    asks = (let a = u.asks in let b = v.asks in omega (arith, length-append u.answers v.answers));
    never_opened = omega (arith, u.never_opened, v.never_opened);
    once = once_then (length xs) u.answers_at v.answers_at u.once (subst (λ n. AnswersOnce n v.answers_at) u.same_lanes v.once) (λ i j a b bi bj ha hb same. (
        let taken : is_taken q a.shard ≡ true = subst (λ o. is_taken o a.shard ≡ true) (sym u.value) (is_taken_now p u.answers a (u.reached i a bi ha)) in
        let free : is_taken q b.shard ≡ false = was_free q v.answers b v.taken (v.reached j b (let e = u.same_lanes in omega arith) hb) in
        let also : is_taken q a.shard ≡ false = subst (λ (s : ℕ). is_taken q s ≡ false) (sym same.1) free in
        absurd (cc)));
    taken = taken_both p u.answers v.answers u.taken (subst (λ o. TakesAll o v.answers) u.value v.taken);
    value = v.value ∙ (ap (λ o. with_answers o v.answers) u.value ∙ sym (heard_append p u.answers v.answers));
    missed = (let a = u.missed in let b = v.missed in omega (arith, length-append u.answers v.answers));
    light_at = λ i d b h. All-append (IsLight p) (u.answers_at i) (v.answers_at i) (u.light_at i d b h) (λ k e below.
        light_before p u.answers (get_or (v.answers_at i) k e) (subst (λ o. IsLight o (get_or (v.answers_at i) k e)) u.value
        (v.light_at i d (let s = u.same_lanes in omega arith) ((u.each i d b).honest_is h) k e below)));
  }
