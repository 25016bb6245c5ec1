-- A shard in a list of shards, and indices of lists.
use Rattle.std.proofs.Common.{◌≡◌, ◌⊎◌, ℕ, zero, suc, ◌<◌, ◌==◌, ◌&&◌, ◌||◌, not, Bool, true, false, List, [], ◌∷◌, ◌++◌, length, get_or, replicate, Contains, Decides, filter, cond, refl}
use Rattle.std.proofs.Common.{sym, ap, ap₂, ◌∙◌, subst, inl, inr, ⊎_elim, arith, append-nil, ne_eqb}
use mathlib.Core.Option.{some, some-ne-none, some-injective}
use lib.ListN.{get_elem?}
use Rattle.std.proofs.lemmas.Bool.{eqb-true, eq-eqb}
use Rattle.std.proofs.lemmas.List.Elements.{filter-append}
use Rattle.std.proofs.lemmas.List.Folds.{Any-from_list_any, list_any-from_Any, list_any-append}
use Rattle.claim_board.specs.Kept.{among}

pub among_decides : (shard : ℕ) (shards : List ℕ) → Decides (among shard shards) (Contains shards shard)
among_decides shard shards = (there, found)
  where
    there : among shard shards ≡ true → Contains shards shard
    there h =
        let at = Any-from_list_any (λ s. s == shard) shards h in
        let same : at.1 ≡ shard = eqb-true at.1 shard at.4 in
        (at.0, at.2, subst (λ (x : ℕ). get_or shards at.0 x ≡ x) same at.3)

    found : Contains shards shard → among shard shards ≡ true
    found h = list_any-from_Any (λ s. s == shard) shards (h.0, shard, h.1, h.2, eq-eqb shard shard refl)

pub among-push : (shard new : ℕ) (shards : List ℕ) → among shard (shards ++ new ∷ []) ≡ (among shard shards || new == shard)
among-push shard new shards = search (arith, list_any-append)

and_false : (b : Bool) → (b && false) ≡ false
and_false a1 = search arith

-- the shard that is removed isn't found, whatever else is in the list
left_out : (shard gone : ℕ) (rest b : Bool) → (gone == shard) ≡ b → (not (shard == gone) && rest) ≡ (not (shard == gone) && (b || rest))
left_out a1 a2 a3 a4 a5 = search (arith, eq-eqb, eqb-true)

-- another shard is found exactly if it was in the list
left_in : (shard gone s : ℕ) (rest b : Bool) → (s == gone) ≡ false → (s == shard) ≡ b → (b || (not (shard == gone) && rest)) ≡ (not (shard == gone) && (b || rest))
left_in a1 a2 a3 a4 a5 a6 a7 = search (arith, eqb-true)

filter_step : (shard gone s : ℕ) (ss : List ℕ) (b : Bool) → among shard (filter (λ x. not (x == gone)) ss) ≡ (not (shard == gone) && among shard ss) → (s == gone) ≡ b
    → among shard (cond (not b) (s ∷ filter (λ x. not (x == gone)) ss) (filter (λ x. not (x == gone)) ss)) ≡ (not (shard == gone) && ((s == shard) || among shard ss))
filter_step a1 a2 a3 a4 a5 a6 a7 = search (arith, eqb-true, left_out, left_in)

pub among-filter : (shard gone : ℕ) (shards : List ℕ) → among shard (filter (λ s. not (s == gone)) shards) ≡ (not (shard == gone) && among shard shards)
among-filter shard gone [] = sym (and_false (not (shard == gone)))
among-filter shard gone (s ∷ ss) = filter_step shard gone s ss (s == gone) (among-filter shard gone ss) refl

-- removing a shard that isn't in the list changes nothing
filter_absent : (shard : ℕ) (shards : List ℕ) → ¬ (Contains shards shard) → filter (λ s. not (s == shard)) shards ≡ shards
filter_absent shard [] absent = refl
filter_absent shard (s ∷ ss) absent =
    ap (λ b. cond (not b) (s ∷ filter (λ x. not (x == shard)) ss) (filter (λ x. not (x == shard)) ss)) (ne_eqb s shard (λ same. absent (0, omega arith, same)))
    ∙ ap (λ xs. s ∷ xs) (filter_absent shard ss (λ has. absent (suc has.0, omega (arith, has.1), has.2)))

-- if a shard is appended to such a list and then removed, the list is as before
pub taken_out : (shard : ℕ) (before : List ℕ) → ¬ (Contains before shard) → filter (λ s. not (s == shard)) (before ++ shard ∷ []) ≡ before
taken_out shard before absent = search (arith, filter-append, not, ap₂, filter_absent, cond, eq-eqb, append-nil)

-- ---- indices

pub at_within : {A : Type 0} (l : List A) (i : ℕ) (a : A) → get_elem? l i ≡ some a → i < length l
at_within [] i a e = absurd (some-ne-none a (sym e))
at_within (x ∷ xs) zero a e = omega arith
at_within (x ∷ xs) (suc i) a e = let h = at_within xs i a e in omega arith

-- an appended element has the index after the last
pub at_end : {A : Type 0} (l : List A) (a b : A) (i : ℕ) → get_elem? (l ++ a ∷ []) i ≡ some b → (get_elem? l i ≡ some b) ⊎ ((i ≡ length l) × (a ≡ b))
at_end [] a b zero e = inr (refl, some-injective a b e)
at_end [] a b (suc i) e = absurd (some-ne-none b (sym e))
at_end (x ∷ xs) a b zero e = inl e
at_end (x ∷ xs) a b (suc i) e = ⊎_elim (λ h. inl h) (λ (t : (i ≡ length xs) × (a ≡ b)). inr (ap suc t.0, t.1)) (at_end xs a b i e)

pub at_replicate : {A : Type 0} (n i : ℕ) (a : A) → i < n → get_elem? (replicate n a) i ≡ some a
at_replicate zero i a h = absurd (omega arith)
at_replicate (suc n) zero a h = refl
at_replicate (suc n) (suc i) a h = at_replicate n i a (omega arith)

pub of_replicate : {A : Type 0} (n i : ℕ) (a b : A) → get_elem? (replicate n a) i ≡ some b → a ≡ b
of_replicate zero i a b e = absurd (some-ne-none b (sym e))
of_replicate (suc n) zero a b e = some-injective a b e
of_replicate (suc n) (suc i) a b e = of_replicate n i a b e
