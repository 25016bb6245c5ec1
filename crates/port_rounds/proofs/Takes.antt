-- How answers are taken one after the other.
use Rattle.std.proofs.Common.{◌≡◌, ℕ, zero, suc, ◌+◌, ◌<◌, Bool, true, false, cond, List, [], ◌∷◌, ◌++◌, length, get_or, set, map, refl, ap, sym, ◌∙◌, arith}
use Rattle.std.specs.Prelude.{◌≢◌, All, AllPairs, Contains, reverse, not}
use Rattle.std.proofs.lemmas.Grind.{common_steps}
use Rattle.std.proofs.lemmas.List.{get_or-set_other, reverse-append}
use Rattle.std.proofs.lemmas.List.Sums.{sum_by-set, fold-append}
use Rattle.std.proofs.lemmas.List.Concat.{flat_map-cons}
use Rattle.std.proofs.lemmas.List.Elements.{All-cons, All-head, All-tail, Contains-append_left, Contains-append_right}
use Rattle.links.specs.AnswerValue.{AnswerValue}
use Rattle.round_core.specs.BookValue.{BookValue, with_answer, missing, is_taken}
use Rattle.port_rounds.specs.Asks.{Takes, shards_of}
use Rattle.port_rounds.specs.Lanes.{LaneState, kept_answers}
use Rattle.port_rounds.specs.Taking.{with_answers, TakesAll}

-- to remove the last element of a list is to remove the first of its reverse
pub popped : {X : Type 0} (xs ys : List X) (x : X) → ys ≡ xs ++ x ∷ [] → reverse ys ≡ x ∷ reverse xs
popped xs ys x e = ap (λ zs. reverse zs) e ∙ reverse-append xs (x ∷ [])

-- a list that is taken is taken in two parts
pub taken_append : (p : BookValue) (xs ys : List AnswerValue) → TakesAll p (xs ++ ys) → TakesAll p xs × TakesAll (with_answers p xs) ys
taken_append p [] ys f = (tt, f)
taken_append p (x ∷ xs) ys f = let r = taken_append (with_answer p x) xs ys f.1 in ((f.0, r.0), r.1)

-- another shard is as it was
kept_stays : (p : BookValue) (s t : AnswerValue) → (t.shard ≡ s.shard → ⊥) → Takes p t → Takes (with_answer p s) t
kept_stays p s t other k = record { within = k.within; taken = rw (get_or-set_other p.taken s.shard t.shard true true other) k.taken }

stay_all : (p : BookValue) (s : AnswerValue) (ts : List AnswerValue) → ¬ Contains (shards_of ts) s.shard → All (Takes p) ts → All (Takes (with_answer p s)) ts
stay_all p s [] none k = λ i d below. absurd (omega arith)
stay_all p s (t ∷ ts) none k =
    let other : t.shard ≡ s.shard → ⊥ = λ e. none (0, omega arith, e) in
    let rest = stay_all p s ts (λ h. none (suc h.0, omega arith, h.2)) (All-tail (Takes p) t ts k) in
    All-cons (Takes (with_answer p s)) t ts (kept_stays p s t other (All-head (Takes p) t ts k)) rest

-- no number occurs twice
abbrev pub Distinct : List ℕ → Type 0
Distinct [] = Unit {0}
Distinct (x ∷ xs) = (¬ Contains xs x) × Distinct xs

pub distinct_of : (xs : List ℕ) → AllPairs (λ a b. a ≢ b) xs → Distinct xs
distinct_of [] a = tt
distinct_of (x ∷ xs) a = ((λ h. a 0 (suc h.0) x (omega arith) (omega arith) (sym h.2)), distinct_of xs (λ i j d l b. a (suc i) (suc j) d (omega arith) (omega arith)))

-- answers of different shards, each of which the book takes, are taken one after the other
pub taken_of : (p : BookValue) (ts : List AnswerValue) → Distinct (shards_of ts) → All (Takes p) ts → TakesAll p ts
taken_of p [] d k = tt
taken_of p (t ∷ ts) d k = (All-head (Takes p) t ts k, taken_of (with_answer p t) ts d.1 (stay_all p t ts d.0 (All-tail (Takes p) t ts k)))

pub untaken : (p : BookValue) (t : AnswerValue) → Takes p t → is_taken p t.shard ≡ false
untaken p t k = (let e = k.taken in grind (arith, common_steps))

within : (xs : List Bool) (i : ℕ) → get_or xs i true ≡ false → i < length xs
within [] i e = absurd (cc)
within (x ∷ xs) zero e = omega arith
within (x ∷ xs) (suc i) e = omega (arith, within xs i e)

pub taken_one : (p : BookValue) (t : AnswerValue) → Takes p t → missing (with_answer p t) + 1 ≡ missing p
taken_one p t k = search (arith, untaken, within, sum_by-set, cond)

pub taken_all : (p : BookValue) (ts : List AnswerValue) → TakesAll p ts → missing (with_answers p ts) + length ts ≡ missing p
taken_all p [] f = omega arith
taken_all p (t ∷ ts) f = omega (arith, taken_all (with_answer p t) ts f.1, taken_one p t f.0)

pub all_kept_cons : {P : Type 0} (zs : List (LaneState P)) (x : LaneState P) (xs : List (LaneState P)) → zs ≡ x ∷ xs → kept_answers zs ≡ x.kept ++ kept_answers xs
all_kept_cons zs x xs e = rw e (flat_map-cons (λ l. l.kept) x xs)

pub heard_append : (p : BookValue) (xs ys : List AnswerValue) → with_answers p (xs ++ ys) ≡ with_answers (with_answers p xs) ys
heard_append p xs ys = fold-append with_answer p xs ys

-- answers that are taken after others are taken with them
pub taken_both : (p : BookValue) (xs ys : List AnswerValue) → TakesAll p xs → TakesAll (with_answers p xs) ys → TakesAll p (xs ++ ys)
taken_both p [] ys f g = g
taken_both p (x ∷ xs) ys f g = (f.0, taken_both (with_answer p x) xs ys f.1 g)

-- what is free later is free now
set_before : (xs : List Bool) (i k : ℕ) → get_or (set xs i true) k true ≡ false → get_or xs k true ≡ false
set_before [] i k e = e
set_before (x ∷ xs) zero zero e = absurd (cc)
set_before (x ∷ xs) zero (suc k) e = e
set_before (x ∷ xs) (suc i) zero e = e
set_before (x ∷ xs) (suc i) (suc k) e = set_before xs i k e

pub taken_before : (p : BookValue) (ts : List AnswerValue) (s : ℕ) → is_taken (with_answers p ts) s ≡ false → is_taken p s ≡ false
taken_before p [] s e = e
taken_before p (t ∷ ts) s e = set_before p.taken t.shard s (taken_before (with_answer p t) ts s e)

pub set_takes : (xs : List Bool) (i : ℕ) → get_or (set xs i true) i true ≡ true
set_takes [] i = refl
set_takes (x ∷ xs) zero = refl
set_takes (x ∷ xs) (suc i) = set_takes xs i

-- ---- the lists of all lanes

abbrev pub kept_at : {P : Type 0} → List (LaneState P) → ℕ → List AnswerValue
kept_at lanes i = get_or (map (λ l. l.kept) lanes) i []

pub kept_to : {P : Type 0} (lanes : List (LaneState P)) (i : ℕ) (t : AnswerValue) → i < length lanes → Contains (get_or (map (λ l. l.kept) lanes) i []) t → Contains (kept_answers lanes) t
kept_to [] i t b h = absurd (omega arith)
kept_to (l ∷ ls) zero t b h = Contains-append_left l.kept (kept_answers ls) t h
kept_to (l ∷ ls) (suc i) t b h = Contains-append_right l.kept (kept_answers ls) t (kept_to ls i t (omega arith) h)
