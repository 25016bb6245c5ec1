-- The coordinator's own scans.
use Rattle.std.proofs.Common.{◌≡◌, ℕ, ◌+◌, ◌<◌, inl, inr, not, Bool, true, false, List, [], ◌∷◌, ◌++◌, length, get_or, refl, ap, sym, subst, ◌∙◌, arith, length-append, length-set, set, suc}
use Rattle.std.specs.Prelude.{count_by}
use Rattle.std.proofs.lemmas.List.Elements.{All-append}
use Rattle.links.specs.AnswerValue.{AnswerValue}
use Rattle.round_core.specs.BookValue.{BookValue, missing, with_answer, is_taken}
use Rattle.port_rounds.specs.Bounds.{IsAskable}
use Rattle.port_rounds.specs.Asks.{Takes, IsLight}
use Rattle.port_rounds.specs.Taking.{with_answers}
use Rattle.port_rounds.specs.Scanned.{ScansShards}
use Rattle.port_rounds.specs.Rounds.{RunsRound}
use Rattle.port_rounds.specs.Passes.{RunsPasses}
use Rattle.port_rounds.specs.Lanes.{LaneState, open_count}
use Rattle.round_theory.specs.declared.port.Port as Port
use Rattle.port_rounds.proofs.Takes.{taken_one, heard_append, taken_before, set_takes}
use Rattle.port_rounds.proofs.Passing.{light_before, heard_same, askable_still}
use Rattle.port_rounds.proofs.AsksThen.{either}
use Rattle.port_rounds.proofs.Eaches.{one}

pub scanned_one : (p q : BookValue) (t : AnswerValue) → Takes p t → IsLight p t → q ≡ with_answer p t → ScansShards p q 1
scanned_one p q t k r e = record { answers = t ∷ []; count_is = refl; value = e; missed = rw e (taken_one p t k); light = one (IsLight p) t r }

pub scanned_none : (p : BookValue) → ScansShards p p 0
scanned_none p = record { answers = []; count_is = refl; value = refl; missed = omega arith; light = λ i d b. absurd (omega arith) }

pub scanned_then : (p q r : BookValue) (n m : ℕ) → ScansShards p q n → ScansShards q r m → ScansShards p r (n + m)
scanned_then p q r n m u v = record {
  answers = u.answers ++ v.answers;
  count_is = (let a = u.count_is in let b = v.count_is in omega (arith, length-append u.answers v.answers));
  value = v.value ∙ (ap (λ o. with_answers o v.answers) u.value ∙ sym (heard_append p u.answers v.answers));
  missed = (let a = u.missed in let b = v.missed in omega arith);
  light = All-append (IsLight p) u.answers v.answers u.light (λ i d b. light_before p u.answers (get_or v.answers i d) (subst (λ o. IsLight o (get_or v.answers i d)) u.value (v.light i d b)));
}

pub stays_taken : (p q : BookValue) (n : ℕ) (k : ℕ) → ScansShards p q n → is_taken p k ≡ true → is_taken q k ≡ true
stays_taken p q n k u t = search (arith, either, taken_before)

-- one scan took the shard that was missing, which is one
pub all_taken : (xs : List Bool) → ((k : ℕ) → k < length xs → get_or xs k true ≡ true) → count_by not xs ≡ 0
all_taken [] h = refl
all_taken (true ∷ xs) h = all_taken xs (λ k b. h (suc k) (omega arith))
all_taken (false ∷ xs) h = absurd (let f = h 0 (omega arith) in cc)

pub heard_long : (p : BookValue) (ts : List AnswerValue) → length (with_answers p ts).taken ≡ length p.taken
heard_long p [] = refl
heard_long p (t ∷ ts) = heard_long (with_answer p t) ts ∙ length-set p.taken t.shard true

pub scanned_long : (p q : BookValue) (n : ℕ) → ScansShards p q n → length q.taken ≡ length p.taken
scanned_long p q n u = ap (λ o. length o.taken) u.value ∙ heard_long p u.answers

pub scanned_cut : (p q : BookValue) (n : ℕ) → ScansShards p q n → q.cut ≡ p.cut
scanned_cut p q n u = (heard_same p q u.answers u.value).cut

pub now_taken : (p q : BookValue) (t : AnswerValue) (s : ℕ) → t.shard ≡ s → q ≡ with_answer p t → is_taken q s ≡ true
now_taken p q t s e f = ap (λ o. is_taken o s) f ∙ subst (λ (k : ℕ). get_or (set p.taken t.shard true) k true ≡ true) e (set_takes p.taken t.shard)

pub rounded : {P A : Type 0} (port : Port.Ghosts P A) (p q r : BookValue) (xs ys : List (LaneState P)) (alone : ℕ)
    → RunsPasses port p q xs ys → (0 < missing q → open_count port.state ys ≡ 0) → ScansShards q r alone → missing r ≡ 0 → RunsRound port p r xs ys alone
rounded port p q r xs ys alone u end s all = search arith

pub round_after : (p q : BookValue) (n : ℕ) → ScansShards p q n → IsAskable p → IsAskable q
round_after p q n u r = askable_still p q (heard_same p q u.answers u.value) r
