-- No two kept answers are for the same shard in the same round, and a book stays one.
use Rattle.std.proofs.Common.{◌≡◌, ℕ, zero, suc, ◌-◌, ◌<◌, ◌≤◌, inl, inr, true, false, List, [], ◌∷◌, ◌++◌, length, get_or, replicate, refl, ap, sym, subst, ◌∙◌, arith, length-append, None}
use Rattle.std.specs.Prelude.{All, Contains, Option}
use Rattle.std.proofs.lemmas.Bool.{cases_lt}
use Rattle.std.proofs.lemmas.List.{get_or_append_left, get_or-append_right, length-replicate, get_or-replicate, length-map, map-append}
use Rattle.std.proofs.lemmas.List.Elements.{Contains-append_left, Contains-append_right, All-contains_itself}
use Rattle.limits.specs.declared.TheConstants.{MAX_SHARDS}
use Rattle.links.specs.declared.links.Link.{Link}
use Rattle.links.specs.Link.{EndsUpTo}
use Rattle.links.specs.Labels.{AreLabels}
use Rattle.links.specs.AnswerValue.{AnswerValue}
use Rattle.round_core.specs.BookValue.{BookValue, IsBookValue, IsBook, opened, with_answer, is_taken}
use Rattle.round_core.proofs.Books.{book_opened}
use Rattle.round_core.proofs.Full.{book_heard}
use Rattle.port_rounds.specs.Lanes.{LaneState, kept_answers}
use Rattle.port_rounds.specs.Asks.{SameShard, shards_of}
use Rattle.port_rounds.specs.Passes.{AnswersOnce}
use Rattle.port_rounds.specs.Taking.{with_answers, TakesAll}
use Rattle.port_rounds.proofs.AsksThen.{either}
use Rattle.port_rounds.proofs.Takes.{Distinct, untaken, kept_at, kept_to, taken_before, set_takes}

-- ---- the answers that a book took

-- an answer that a book took was for a shard that it missed
pub was_free : (p : BookValue) (ts : List AnswerValue) (t : AnswerValue) → TakesAll p ts → Contains ts t → is_taken p t.shard ≡ false
was_free p [] t are h = absurd (omega (arith, h.1))
was_free p (x ∷ ts) t are (zero, b, e) = subst (λ (a : AnswerValue). is_taken p a.shard ≡ false) e (untaken p x are.0)
was_free p (x ∷ ts) t are (suc k, b, e) = taken_before p (x ∷ []) t.shard (was_free (with_answer p x) ts t are.1 (k, omega arith, e))

-- and now the book doesn't miss it any more
pub is_taken_now : (p : BookValue) (ts : List AnswerValue) (t : AnswerValue) → Contains ts t → is_taken (with_answers p ts) t.shard ≡ true
is_taken_now p [] t h = absurd (omega (arith, h.1))
is_taken_now p (x ∷ ts) t (zero, b, e) = search (arith, either, taken_before, set_takes)
is_taken_now p (x ∷ ts) t (suc k, b, e) = is_taken_now (with_answer p x) ts t (k, omega arith, e)

pub value_opened : (round : ℕ) (cut : List (List Link)) (labels : List ℕ) → AreLabels labels → All (EndsUpTo (length labels)) cut → length cut ≤ MAX_SHARDS
    → IsBook (opened round cut labels) labels (length cut) (replicate (length labels) None)
value_opened round cut labels are ends few =
    let nothing : List (Option Link) = replicate (length labels) None in
    let long : length nothing ≡ length labels = length-replicate (length labels) None in
    book_opened round (length cut) cut labels labels (replicate (length cut) false) [] nothing are ends few refl refl (omega arith) long
    (λ i d b. get_or-replicate (length labels) i None d (omega (arith, b, long)))
    refl

book_all : (p : BookValue) (looked_up : List ℕ) (ts : List AnswerValue) (room : ℕ) (best : List (Option Link))
    → IsBook p looked_up room best → TakesAll p ts → IsBook (with_answers p ts) looked_up room best
book_all p looked_up [] room best is are = is
book_all p looked_up (t ∷ ts) room best is are = book_all (with_answer p t) looked_up ts room best (book_heard p looked_up room best t.shard t is are.0.within are.0.taken) are.1

-- a book that was opened stays a book
pub value_of_book : (round : ℕ) (cut : List (List Link)) (labels : List ℕ) (ts : List AnswerValue) → AreLabels labels → All (EndsUpTo (length labels)) cut
    → length cut ≤ MAX_SHARDS → TakesAll (opened round cut labels) ts → IsBookValue (with_answers (opened round cut labels) ts)
value_of_book round cut labels ts labels_are ends few are = (book_all (opened round cut labels) labels ts _ _ (value_opened round cut labels labels_are ends few) are).value

-- ---- lists of numbers without repeats

distinct_rest : (xs ys : List ℕ) → Distinct (xs ++ ys) → Distinct ys
distinct_rest [] ys d = d
distinct_rest (x ∷ xs) ys d = distinct_rest xs ys d.1

distinct_apart : (xs ys : List ℕ) (s : ℕ) → Distinct (xs ++ ys) → Contains xs s → Contains ys s → ⊥
distinct_apart [] ys s d h k = absurd (omega (arith, h.1))
distinct_apart (x ∷ xs) ys s d (zero, b, e) k = d.0 (subst (Contains (xs ++ ys)) (sym e) (Contains-append_right xs ys s k))
distinct_apart (x ∷ xs) ys s d (suc i, b, e) k = distinct_apart xs ys s d.1 (i, omega arith, e) k

distinct_places : (xs ys : List ℕ) (k l s : ℕ) → Distinct (xs ++ ys) → k < length xs → l < length xs → get_or xs k s ≡ get_or xs l s → k ≡ l
distinct_places [] ys k l s d a b e = absurd (omega arith)
distinct_places (x ∷ xs) ys zero zero s d a b e = refl
distinct_places (x ∷ xs) ys zero (suc l) s d a b e =
    absurd (d.0 (subst (Contains (xs ++ ys)) (sym e) (Contains-append_left xs ys (get_or xs l s) (All-contains_itself xs l s (omega arith)))))
distinct_places (x ∷ xs) ys (suc k) zero s d a b e =
    absurd (d.0 (subst (Contains (xs ++ ys)) e (Contains-append_left xs ys (get_or xs k s) (All-contains_itself xs k s (omega arith)))))
distinct_places (x ∷ xs) ys (suc k) (suc l) s d a b e = ap suc (distinct_places xs ys k l s d.1 (omega arith) (omega arith) e)

-- ---- what a pass kept

shards_cut : (ts us : List AnswerValue) → shards_of (ts ++ us) ≡ shards_of ts ++ shards_of us
shards_cut ts us = map-append (λ t. t.shard) ts us

named : (ts : List AnswerValue) (t : AnswerValue) → Contains ts t → Contains (shards_of ts) t.shard
named [] t h = absurd (omega (arith, h.1))
named (x ∷ ts) t (zero, b, e) = (0, omega arith, ap (λ (a : AnswerValue). a.shard) e)
named (x ∷ ts) t (suc k, b, e) = (let r = named ts t (k, omega arith, e) in (suc r.0, omega (arith, r.1), r.2))

shard_here : (ts : List AnswerValue) (k : ℕ) (d : AnswerValue) → get_or (shards_of ts) k d.shard ≡ (get_or ts k d).shard
shard_here [] k d = refl
shard_here (t ∷ ts) zero d = refl
shard_here (t ∷ ts) (suc k) d = shard_here ts k d

-- kept answers whose shards differ are one for each shard
pub once_of : {P : Type 0} (lanes : List (LaneState P)) → Distinct (shards_of (kept_answers lanes)) → AnswersOnce (length lanes) (kept_at lanes)
once_of [] d i j k l t a b c e same = absurd (omega arith)
once_of (x ∷ xs) d zero zero k l t a b c e same =
    let apart : Distinct (shards_of x.kept ++ shards_of (kept_answers xs)) = rw (shards_cut x.kept (kept_answers xs)) at d in
    let long : length (shards_of x.kept) ≡ length x.kept = length-map x.kept (λ (a : AnswerValue). a.shard) in
    (refl, distinct_places (shards_of x.kept) (shards_of (kept_answers xs)) k l t.shard apart (omega arith) (omega arith) (shard_here x.kept k t ∙ (same.1 ∙ sym (shard_here x.kept l t))))
once_of (x ∷ xs) d zero (suc j) k l t a b c e same =
    let apart : Distinct (shards_of x.kept ++ shards_of (kept_answers xs)) = rw (shards_cut x.kept (kept_answers xs)) at d in
    let first = get_or x.kept k t in
    let other = get_or (kept_at xs j) l t in
    let there : Contains (kept_answers xs) other = kept_to xs j other (omega arith) (All-contains_itself (kept_at xs j) l t e) in
    absurd (distinct_apart (shards_of x.kept) (shards_of (kept_answers xs)) first.shard apart (named x.kept first (All-contains_itself x.kept k t c))
    (subst (Contains (shards_of (kept_answers xs))) (sym same.1) (named (kept_answers xs) other there)))
once_of (x ∷ xs) d (suc i) zero k l t a b c e same =
    let apart : Distinct (shards_of x.kept ++ shards_of (kept_answers xs)) = rw (shards_cut x.kept (kept_answers xs)) at d in
    let first = get_or x.kept l t in
    let other = get_or (kept_at xs i) k t in
    let there : Contains (kept_answers xs) other = kept_to xs i other (omega arith) (All-contains_itself (kept_at xs i) k t c) in
    absurd (distinct_apart (shards_of x.kept) (shards_of (kept_answers xs)) first.shard apart (named x.kept first (All-contains_itself x.kept l t e))
    (subst (Contains (shards_of (kept_answers xs))) same.1 (named (kept_answers xs) other there)))
once_of (x ∷ xs) d (suc i) (suc j) k l t a b c e same =
    let rest : Distinct (shards_of (kept_answers xs)) = distinct_rest (shards_of x.kept) (shards_of (kept_answers xs)) (rw (shards_cut x.kept (kept_answers xs)) at d) in
    let r = once_of xs rest i j k l t (omega arith) (omega arith) c e same in
    (ap suc r.0, r.1)

-- ---- what is kept later

-- an answer of two lists, by its index
record InBoth (xs ys : List AnswerValue) (k : ℕ) (d : AnswerValue) : Type 0 where
  first : k < length xs → get_or (xs ++ ys) k d ≡ get_or xs k d
  second : length xs ≤ k → get_or (xs ++ ys) k d ≡ get_or ys (k - length xs) d

in_both : (xs ys : List AnswerValue) (k : ℕ) (d : AnswerValue) → InBoth xs ys k d
in_both xs ys k d = record { first = λ b. get_or_append_left xs ys d k b; second = λ b. get_or-append_right xs ys (length xs) k d refl b }

one_same : (a b c e : AnswerValue) → a ≡ c → b ≡ e → SameShard a b → SameShard c e
one_same a b c e p q same = subst (λ (x : AnswerValue). SameShard x e) p (subst (SameShard a) q same)

other_way : (a b : AnswerValue) → SameShard a b → SameShard b a
other_way a b same = (sym same.0, sym same.1)

-- no repeats in either, and different shards or rounds in both
pub once_then : (n : ℕ) (at bt : ℕ → List AnswerValue) → AnswersOnce n at → AnswersOnce n bt
    → ((i j : ℕ) (a b : AnswerValue) → i < n → j < n → Contains (at i) a → Contains (bt j) b → ¬ SameShard a b) → AnswersOnce n (λ i. at i ++ bt i)
once_then n at bt u v apart i j k l d bi bj bk bl same =
    let p = in_both (at i) (bt i) k d in
    let q = in_both (at j) (bt j) l d in
    let a = get_or (at i ++ bt i) k d in
    let b = get_or (at j ++ bt j) l d in
    let li = length-append (at i) (bt i) in
    let lj = length-append (at j) (bt j) in
    elim (cases_lt k (length (at i))) [
      | inl ki ↦ elim (cases_lt l (length (at j))) [
        | inl here ↦ u i j k l d bi bj ki here (one_same a b (get_or (at i) k d) (get_or (at j) l d) (p.first ki) (q.first here) same)
        | inr past ↦
            let c = get_or (at i) k d in
            let e = get_or (bt j) (l - length (at j)) d in
            absurd (apart i j c e bi bj (All-contains_itself (at i) k d ki) (All-contains_itself (bt j) (l - length (at j)) d (omega arith)) (one_same a b c e (p.first ki) (q.second past) same))
      ]
      | inr over ↦ elim (cases_lt l (length (at j))) [
        | inl here ↦
            let c = get_or (at j) l d in
            let e = get_or (bt i) (k - length (at i)) d in
            absurd (apart j i c e bj bi (All-contains_itself (at j) l d here) (All-contains_itself (bt i) (k - length (at i)) d (omega arith))
            (other_way e c (one_same a b e c (p.second over) (q.first here) same)))
        | inr past ↦
            let c = get_or (bt i) (k - length (at i)) d in
            let e = get_or (bt j) (l - length (at j)) d in
            let r = v i j (k - length (at i)) (l - length (at j)) d bi bj (omega arith) (omega arith) (one_same a b c e (p.second over) (q.second past) same) in
            let same_length : length (at i) ≡ length (at j) = ap (λ m. length (at m)) r.0 in
            (r.0, (let f = r.1 in omega arith))
      ]
    ]
