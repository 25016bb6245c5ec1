-- One round after others.
use Rattle.std.proofs.Common.{◌≡◌, ℕ, zero, suc, ◌+◌, ◌*◌, ◌<◌, ◌≤◌, ◌⊎◌, inl, inr, not, cond, false, List, [], ◌∷◌, ◌++◌, length, get_or, refl, ap, sym, subst, ◌∙◌, arith, length-append}
use Rattle.std.proofs.Common.{append-nil, append_assoc}
use Rattle.std.specs.Prelude.{All, Contains, Option, Some, None}
use Rattle.std.proofs.Math.Nat.{suc-mul}
use Rattle.std.proofs.lemmas.List.{nil_from_length}
use Rattle.std.proofs.lemmas.List.Folds.{sum_by-replicate}
use Rattle.std.proofs.lemmas.List.Elements.{All-append, Contains-append_left, Contains-append_right, Contains-append_cases, All-contains, All-contains_itself, All-weaker}
use Rattle.links.specs.declared.links.Link.{Link}
use Rattle.links.specs.Link.{EndsUpTo}
use Rattle.links.specs.AnswerValue.{AnswerValue}
use Rattle.round_core.specs.BookValue.{BookValue, IsRight, IsBookValue, opened, with_answer, missing}
use Rattle.round_theory.specs.declared.port.Port as Port
use Rattle.round_theory.specs.Exchanges.{Exchange}
use Rattle.port_rounds.specs.Lanes.{LaneState}
use Rattle.port_rounds.specs.Asks.{TakesExchange, ClosesPort, IsLight}
use Rattle.port_rounds.specs.Bounds.{IsAskable}
use Rattle.port_rounds.specs.Taking.{with_answers}
use Rattle.port_rounds.specs.Passes.{AnswersOnce, RunsPasses}
use Rattle.port_rounds.specs.Scanned.{ScansShards}
use Rattle.port_rounds.specs.Rounds.{RunsRound}
use Rattle.port_rounds.specs.Runs.{opened_book, ClosesPortIn, IsKeptIn, HasScanned, ClosesBy, AllCloseBy, IsGivenBy, IsLightIn, IsFullBook, MatchesBooks, RunsRounds}
use Rattle.port_rounds.proofs.AsksThen.{ComeFirst, stayed, asks_then}
use Rattle.port_rounds.proofs.Eaches.{one}
use Rattle.port_rounds.proofs.Once.{once_then}
use Rattle.port_rounds.proofs.Passing.{SameRound, heard_same, asks_more}
use Rattle.port_rounds.proofs.ClosedBy.{none_open, still_closed, now_closed}

contains_all : {X : Type 0} (P : X → Type 0) (xs : List X) → ((x : X) → Contains xs x → P x) → All P xs
contains_all P xs h = All-weaker (Contains xs) P h xs (All-contains_itself xs)

-- a book that was opened for a cut misses each shard
pub opened_misses : (round : ℕ) (cut : List (List Link)) (labels : List ℕ) → missing (opened round cut labels) ≡ length cut
opened_misses round cut labels = (let e = sum_by-replicate (λ x. cond (not x) 1 0) (length cut) false in omega (arith, e))

pub opened_round : (round : ℕ) (cut : List (List Link)) (labels : List ℕ) → 0 < length cut → All (EndsUpTo (length labels)) cut → 1 ≤ round → IsAskable (opened round cut labels)
opened_round round cut labels some ends first = search arith

pub heard_answers : (p : BookValue) (ts : List AnswerValue) → (with_answers p ts).answers ≡ p.answers ++ ts
heard_answers p [] = sym (append-nil p.answers)
heard_answers p (t ∷ ts) = heard_answers (with_answer p t) ts ∙ append_assoc p.answers (t ∷ []) ts

none_or_some : (k : ℕ) → (k ≡ 0) ⊎ (0 < k)
none_or_some a1 = search arith

same_then : (p q r : BookValue) → SameRound p q → SameRound q r → SameRound p r
same_then p q r s t = record { round = t.round ∙ s.round; cut = t.cut ∙ s.cut; labels = t.labels ∙ s.labels }

light_still : (p q : BookValue) → SameRound p q → (t : AnswerValue) → IsLight p t → IsLight q t
light_still p q s t l = rw (s.cut, s.round, s.labels) l

pub closing_still : (p q : BookValue) → SameRound p q → (w : ℕ × ℕ) (o : Option Exchange) → ClosesPort (opened_book p) w o → ClosesPort (opened_book q) w o
closing_still a1 a2 a3 a4 a5 a6 = search arith

pub kept_still : (p q : BookValue) → SameRound p q → (x : Exchange) → TakesExchange (opened_book p) x → TakesExchange (opened_book q) x
kept_still p q s x r = rw (s.cut, s.round, s.labels) r

module _ {P A : Type 0} (port : Port.Ghosts P A) where
  -- a round doesn't change the book's round, cut and labels
  pub same_still : (round : ℕ) (cut : List (List Link)) (labels : List ℕ) (new : BookValue) (xs ys : List (LaneState P)) (k : ℕ)
      → RunsRound port (opened round cut labels) new xs ys k → SameRound (opened round cut labels) new
  same_still round cut labels new xs ys k r = search (arith, same_then, heard_same)

pub lane_at : {X : Type 0} (xs : List X) (i : ℕ) → i < length xs → X
lane_at [] i b = absurd (omega arith)
lane_at (x ∷ xs) i b = x

-- ---- kept answers and the books

-- the answers of a book that passes and scans filled
filled : (old middle new : BookValue) (ts us : List AnswerValue) → middle ≡ with_answers old ts → new ≡ with_answers middle us → old.answers ≡ [] → new.answers ≡ ts ++ us
filled old middle new ts us first second none = search (arith, heard_answers)

pub just_new : (new book : BookValue) → Contains (new ∷ []) book → book ≡ new
just_new a1 a2 a3 = search arith

pub whole_books : (cut : List (List Link)) (books : List BookValue) → All (IsFullBook cut) books → All IsBookValue books
whole_books cut books whole = All-weaker (IsFullBook cut) IsBookValue (λ book w. w.value) books whole

-- exchanges of books of earlier rounds come before those of a round
pub books_first : (books : List BookValue) (round : ℕ) (xs ys : List Exchange) → All (λ (book : BookValue). book.round < round) books → All (IsKeptIn books) xs
    → All (λ (y : Exchange). y.round ≡ round) ys → ComeFirst xs ys
books_first books round xs ys earlier kept now i d b j e c =
    let (book, is_in, is) = kept i d b in
    omega (arith, is.asked.ask.round, All-contains (λ (book : BookValue). book.round < round) books book earlier is_in, now j e c)

pub kept_none : {P : Type 0} (honest : P → Type 0) (xs : List (LaneState P)) → MatchesBooks honest xs [] (λ i. [])
kept_none honest xs = search arith

-- the book that passes and scans filled has the answers that passes kept
pub kept_in : {P A : Type 0} (port : Port.Ghosts P A) (old middle new : BookValue) (xs ys : List (LaneState P)) (k : ℕ)
    → (v : RunsPasses port old middle xs ys) → ScansShards middle new k → old.answers ≡ [] → MatchesBooks port.honest xs (new ∷ []) v.answers_at
kept_in port old middle new xs ys k v w none =
    let answers : new.answers ≡ v.answers ++ w.answers = filled old middle new v.answers w.answers v.value w.value none in
    let second : SameRound middle new = heard_same middle new w.answers w.value in
    let same : SameRound old new = same_then old middle new (heard_same old middle v.answers v.value) second in
    let here : Contains (new ∷ []) new = (0, omega arith, refl) in
    let Right : AnswerValue → Type 0 = λ t. IsLight new t ⊎ IsGivenBy (length xs) v.answers_at t in
    let there : (i : ℕ) (t : AnswerValue) → i < length xs → Contains (v.answers_at i) t → Contains new.answers t =
    λ i t b h. subst (λ (ts : List AnswerValue). Contains ts t) (sym answers) (Contains-append_left v.answers w.answers t (v.reached i t b h)) in
    record {
      reached = λ i t b h. (new, here, there i t b h);
      each_is =
          one (λ (book : BookValue). All (λ t. IsLight book t ⊎ IsGivenBy (length xs) v.answers_at t) book.answers) new
          (subst (λ (ts : List AnswerValue). All Right ts) (sym answers)
          (All-append Right v.answers w.answers (contains_all Right v.answers (λ t c. inr (v.given t c)))
          (All-weaker (IsLight middle) Right (λ t l. inl (light_still middle new second t l)) w.answers w.light)));
      light_at = λ i d b h. contains_all (IsLightIn (new ∷ [])) (v.answers_at i) (λ t c.
          (new, here, there i t b c, light_still old new same t (All-contains (IsLight old) (v.answers_at i) t (v.light_at i d b h) c)));
      once = v.once;
    }

-- an answer that was kept is of the round of a book
pub kept_round : {P : Type 0} (honest : P → Type 0) (xs : List (LaneState P)) (books : List BookValue) (at : ℕ → List AnswerValue) (i : ℕ) (t : AnswerValue)
    → All IsBookValue books → MatchesBooks honest xs books at
    → i < length xs → Contains (at i) t → (book : BookValue) × Contains books book × (t.round ≡ book.round)
kept_round honest xs books at i t values u b h =
    let r = u.reached i t b h in
    let value : IsBookValue r.0 = All-contains IsBookValue books r.0 values r.1 in
    (r.0, r.1, (All-contains (IsRight r.0.round r.0.cut r.0.labels) r.0.answers t value.right r.2).round_is)

-- kept answers and their books, and those of another book of a later round
pub kept_then : {P : Type 0} (honest : P → Type 0) (xs ys : List (LaneState P)) (books : List BookValue) (new : BookValue) (at bt : ℕ → List AnswerValue) → length ys ≡ length xs
    → ((i : ℕ) (d : LaneState P) → i < length xs → honest (get_or xs i d).port → honest (get_or ys i d).port) → All IsBookValue books → IsBookValue new
    → All (λ (book : BookValue). book.round < new.round) books
    → MatchesBooks honest xs books at → MatchesBooks honest ys (new ∷ []) bt → MatchesBooks honest xs (books ++ new ∷ []) (λ i. at i ++ bt i)
kept_then {P} honest xs ys books new at bt same stays values value earlier u v =
    let both : ℕ → List AnswerValue = λ i. at i ++ bt i in
    let left : (book : BookValue) → Contains books book → Contains (books ++ new ∷ []) book = λ book c. Contains-append_left books (new ∷ []) book c in
    let right : (book : BookValue) → Contains (new ∷ []) book → Contains (books ++ new ∷ []) book = λ book c. Contains-append_right books (new ∷ []) book c in
    record {
      reached = λ i t b h. elim (Contains-append_cases (at i) (bt i) t h) [
        | inl a ↦ (let q = u.reached i t b a in (q.0, left q.0 q.1, q.2))
        | inr a ↦ (let q = v.reached i t (omega arith) a in (q.0, right q.0 q.1, q.2))
      ];
      each_is =
          All-append (λ (book : BookValue). All (λ t. IsLight book t ⊎ IsGivenBy (length xs) both t) book.answers) books (new ∷ [])
          (All-weaker (λ (book : BookValue). All (λ t. IsLight book t ⊎ IsGivenBy (length xs) at t) book.answers)
          (λ (book : BookValue). All (λ t. IsLight book t ⊎ IsGivenBy (length xs) both t) book.answers)
          (λ book a. All-weaker (λ t. IsLight book t ⊎ IsGivenBy (length xs) at t) (λ t. IsLight book t ⊎ IsGivenBy (length xs) both t)
          (λ t e. elim e [ inl l ↦ inl l | inr g ↦ inr (g.0, g.1, Contains-append_left (at g.0) (bt g.0) t g.2) ]) book.answers a)
          books u.each_is)
          (All-weaker (λ (book : BookValue). All (λ t. IsLight book t ⊎ IsGivenBy (length ys) bt t) book.answers)
          (λ (book : BookValue). All (λ t. IsLight book t ⊎ IsGivenBy (length xs) both t) book.answers)
          (λ book a. All-weaker (λ t. IsLight book t ⊎ IsGivenBy (length ys) bt t) (λ t. IsLight book t ⊎ IsGivenBy (length xs) both t)
          (λ t e. elim e [ inl l ↦ inl l | inr g ↦ inr (g.0, (let l = g.1 in omega arith), Contains-append_right (at g.0) (bt g.0) t g.2) ]) book.answers a)
          (new ∷ []) v.each_is);
      light_at = λ i d b h.
          All-append (IsLightIn (books ++ new ∷ [])) (at i) (bt i)
          (All-weaker (IsLightIn books) (IsLightIn (books ++ new ∷ [])) (λ t q. (q.0, left q.0 q.1, q.2, q.3)) (at i) (u.light_at i d b h))
          (All-weaker (IsLightIn (new ∷ [])) (IsLightIn (books ++ new ∷ [])) (λ t q. (q.0, right q.0 q.1, q.2, q.3)) (bt i) (v.light_at i d (omega arith) (stays i d b h)));
      once = once_then (length xs) at bt u.once (subst (λ n. AnswersOnce n bt) same v.once) (λ i j a b bi bj ha hb for_one. (
          let p = kept_round honest xs books at i a values u bi ha in
          let q = kept_round honest ys (new ∷ []) bt j b (one IsBookValue new value) v (omega arith) hb in
          let before : p.0.round < new.round = All-contains (λ (book : BookValue). book.round < new.round) books p.0 earlier p.1 in
          let is : q.0 ≡ new = just_new new q.0 q.1 in
          let now : q.0.round ≡ new.round = ap (λ (o : BookValue). o.round) is in
          let e : a.round ≡ p.0.round = p.2 in
          let f : b.round ≡ q.0.round = q.2 in
          let g : a.round ≡ b.round = for_one.0 in
          absurd (omega arith)));
    }

-- an answer that no lane kept wasn't kept before either
scanned_before : (book : BookValue) (at bt : ℕ → List AnswerValue) (lanes : ℕ) → HasScanned lanes (λ i. at i ++ bt i) book → HasScanned lanes at book
scanned_before book at bt lanes (t, has, alone) = (t, has, λ g. alone (g.0, g.1, Contains-append_left (at g.0) (bt g.0) t g.2))

module _ {P A : Type 0} (port : Port.Ghosts P A) where
  pub rounds_none : (cut : List (List Link)) (xs : List (LaneState P)) → RunsRounds port cut xs xs [] 0 0
  rounds_none cut xs = record {
    whole = λ i d b. absurd (omega arith);
    answers_at = λ i. [];
    ports = record { same_lanes = refl; each = λ i d b. stayed port (IsKeptIn []) (ClosesPortIn []) (get_or xs i d).port };
    kept = kept_none port.honest xs;
    few = λ i. omega arith;
    counted = omega arith;
    asks = omega arith;
    never_opened = omega arith;
    closed = λ some. absurd (omega arith);
    closed_by = λ i d b. absurd (omega arith);
    given = λ none i d b. absurd (omega arith);
    light = λ h i d b. absurd (omega arith);
  }

  -- another round, over a book that was opened for the cut
  pub rounds_then : (cut : List (List Link)) (round : ℕ) (labels : List ℕ) (new : BookValue) (xs ys zs : List (LaneState P)) (books : List BookValue) (answered alone k : ℕ)
      → RunsRounds port cut xs ys books answered alone → All (λ (book : BookValue). book.round < round) books → (r : RunsRound port (opened round cut labels) new ys zs k) → IsBookValue new
      → RunsRounds port cut xs zs (books ++ new ∷ []) (answered + length r.passes.answers) (alone + k)
  rounds_then cut round labels new xs ys zs books answered alone k u earlier r value =
      let old = opened round cut labels in
      let v = r.passes in
      let w = r.scans in
      let first : SameRound old r.middle = heard_same old r.middle v.answers v.value in
      let second : SameRound r.middle new = heard_same r.middle new w.answers w.value in
      let same : SameRound old new = same_then old r.middle new first second in
      let answers : new.answers ≡ v.answers ++ w.answers = filled old r.middle new v.answers w.answers v.value w.value refl in
      let shards : length v.answers + k ≡ length cut =
      (let a = v.missed in let b = w.missed in let c = r.all in let d = opened_misses round cut labels in omega arith) in
      let at : ℕ → List AnswerValue = λ i. u.answers_at i ++ v.answers_at i in
      let here : Contains (books ++ new ∷ []) new = Contains-append_right books (new ∷ []) new (0, omega arith, refl) in
      record {
        whole = All-append (IsFullBook cut) books (new ∷ []) u.whole (one (IsFullBook cut) new (record { cut_is = same.cut; value = value; all = r.all }));
        answers_at = λ i. u.answers_at i ++ v.answers_at i;
        ports = record {
          same_lanes = v.same_lanes ∙ u.ports.same_lanes;
          each = λ i d b. (
              let within : i < length ys = (let e = u.ports.same_lanes in omega arith) in
              asks_then port (IsKeptIn (books ++ new ∷ [])) (ClosesPortIn (books ++ new ∷ [])) _ _ _ (u.answers_at i) (v.answers_at i)
              (asks_more port (IsKeptIn books) (IsKeptIn (books ++ new ∷ [])) (ClosesPortIn books) (ClosesPortIn (books ++ new ∷ []))
              (λ x q. (q.0, Contains-append_left books (new ∷ []) q.0 q.1, q.2)) (λ w t q. (q.0, Contains-append_left books (new ∷ []) q.0 q.1, q.2)) _ _ (u.answers_at i) (u.ports.each i d b))
              (asks_more port (TakesExchange old) (IsKeptIn (books ++ new ∷ [])) (ClosesPort old) (ClosesPortIn (books ++ new ∷ []))
              (λ x q. (new, here, kept_still old new same x q)) (λ w t q. (new, here, closing_still old new same w t q)) _ _ (v.answers_at i) (v.each i d within))
              (books_first books round (u.ports.each i d b).exchanges (v.each i d within).exchanges earlier (u.ports.each i d b).keeps (λ j e c. ((v.each i d within).keeps j e c).asked.ask.round)));
        };
        kept =
            kept_then port.honest xs ys books new u.answers_at v.answers_at u.ports.same_lanes (λ i d b. (u.ports.each i d b).honest_is) (whole_books cut books u.whole) value
            (subst (λ (r : ℕ). All (λ (book : BookValue). book.round < r) books) (sym same.round) earlier) u.kept
            (kept_in port old r.middle new ys zs k v w refl);
        few = λ i. (let a = u.few i in let b = v.few i in omega (arith, length-append (u.answers_at i) (v.answers_at i)));
        counted = (
            let one_more : length (books ++ new ∷ []) ≡ suc (length books) = omega (arith, length-append books (new ∷ [])) in
            let before = u.counted in
            let sum : (answered + length v.answers) + (alone + k) ≡ length books * length cut + length cut = omega arith in
            sum ∙ sym (ap (λ b. b * length cut) one_more ∙ suc-mul (length books) (length cut)));
        asks = (let a = u.asks in let b = v.asks in omega arith);
        never_opened = (let a = u.never_opened in let b = v.never_opened in omega arith);
        closed = λ some. elim (none_or_some k) [
          | inl none ↦ (let a = u.closed (omega arith) in let b = v.never_opened in omega arith)
          | inr scanned ↦ r.closed scanned
        ];
        closed_by =
            All-append (λ (book : BookValue). HasScanned (length xs) at book → AllCloseBy port.state book.round xs zs) books (new ∷ [])
            (All-weaker (λ (book : BookValue). HasScanned (length xs) u.answers_at book → AllCloseBy port.state book.round xs ys)
            (λ (book : BookValue). HasScanned (length xs) at book → AllCloseBy port.state book.round xs zs)
            (λ book by scanned i d b.
            still_closed port (TakesExchange old) (ClosesPort old) book.round (get_or xs i d).port (get_or ys i d).port (get_or zs i d).port (v.answers_at i)
            (by (scanned_before book u.answers_at v.answers_at (length xs) scanned) i d b) (v.each i d (let e = u.ports.same_lanes in omega arith)))
            books u.closed_by)
            (one (λ (book : BookValue). HasScanned (length xs) at book → AllCloseBy port.state book.round xs zs) new
            (λ (t, has, alone) i d b. (
            let some : 0 < k = elim (Contains-append_cases v.answers w.answers t (subst (λ (ts : List AnswerValue). Contains ts t) answers has)) [
              | inl c ↦ (let q = v.given t c in absurd (alone (q.0, (let e = u.ports.same_lanes in let l = q.1 in omega arith), Contains-append_right (u.answers_at q.0) (v.answers_at q.0) t q.2)))
              | inr c ↦ (let some = c.1 in let e = w.count_is in omega arith)
            ] in
            let within : i < length ys = (let e = u.ports.same_lanes in omega arith) in
            let shut = none_open port.state zs (r.closed some) i d (let e = v.same_lanes in omega arith) in
            subst (λ (n : ℕ). ClosesBy n (port.state (get_or xs i d).port) (port.state (get_or zs i d).port)) (sym same.round)
            (now_closed port books old (get_or xs i d).port (get_or ys i d).port (get_or zs i d).port (u.answers_at i) (v.answers_at i) earlier (u.ports.each i d b) (v.each i d within) shut))));
        given = λ none.
            All-append (λ (book : BookValue). All (IsGivenBy (length xs) at) book.answers) books (new ∷ [])
            (All-weaker (λ (book : BookValue). All (IsGivenBy (length xs) u.answers_at) book.answers) (λ (book : BookValue). All (IsGivenBy (length xs) at) book.answers)
            (λ book a. All-weaker (IsGivenBy (length xs) u.answers_at) (IsGivenBy (length xs) at) (λ t q. (q.0, q.1, Contains-append_left (u.answers_at q.0) (v.answers_at q.0) t q.2)) book.answers a)
            books (u.given (omega arith)))
            (one (λ (book : BookValue). All (IsGivenBy (length xs) at) book.answers) new (
            let nothing_scanned : w.answers ≡ [] = nil_from_length w.answers (let e = w.count_is in omega arith) in
            let just : v.answers ≡ new.answers = sym (append-nil v.answers) ∙ (ap (λ zs. v.answers ++ zs) (sym nothing_scanned) ∙ sym answers) in
            subst (λ (ts : List AnswerValue). All (IsGivenBy (length xs) at) ts) just
            (contains_all (IsGivenBy (length xs) at) v.answers (λ t c. (let q = v.given t c in
            (q.0, (let e = u.ports.same_lanes in let l = q.1 in omega arith), Contains-append_right (u.answers_at q.0) (v.answers_at q.0) t q.2))))));
        light = λ h.
            All-append (λ (book : BookValue). All (IsLight book) book.answers) books (new ∷ []) (u.light h)
            (one (λ (book : BookValue). All (IsLight book) book.answers) new (subst (λ (ts : List AnswerValue). All (IsLight new) ts) (sym answers)
            (All-append (IsLight new) v.answers w.answers
            (contains_all (IsLight new) v.answers (λ t c. (
            let g = v.given t c in
            let within : g.0 < length ys = g.1 in
            let before : g.0 < length xs = (let e = u.ports.same_lanes in omega arith) in
            let d : LaneState P = lane_at ys g.0 within in
            let l : All (IsLight old) (v.answers_at g.0) = v.light_at g.0 d within ((u.ports.each g.0 d before).honest_is (h g.0 d before)) in
            light_still old new same t (All-contains (IsLight old) (v.answers_at g.0) t l g.2))))
            (All-weaker (IsLight r.middle) (IsLight new) (light_still r.middle new second) w.answers w.light))));
      }
