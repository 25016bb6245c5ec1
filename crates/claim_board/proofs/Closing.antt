-- The words of a closed board as owners, and what its last state says of the seats.
use Rattle.std.proofs.Common.{◌≡◌, ◌≢◌, ◌↔◌, ℕ, zero, suc, ◌-◌, ◌<◌, ◌≤◌, List, [], ◌∷◌, ◌++◌, length, map, Some, None, Option, slice_get, refl, sym, ap, ◌∙◌, subst, ⊎_elim, arith}
use Rattle.std.specs.Prelude.{slice_index}
use mathlib.Core.Option.{some, some-ne-none, some-injective}
use lib.ListN.{get_elem?}
use Rattle.std.proofs.lemmas.Bool.{eq-eqb, cases_lt}
use Rattle.std.proofs.lemmas.List.{map-append}
use Rattle.atomic_table.specs.Table.{Me}
use Rattle.claim_board.specs.declared.rule.Size.{Size}
use Rattle.claim_board.specs.declared.rule.View.{View}
use Rattle.claim_board.specs.Machine.{owner, held}
use Rattle.claim_board.specs.State.{SeatState, IsHeldBy, owner_in, CameFromRun}
use Rattle.claim_board.specs.Rule.{word_of, Knows, AgreesWithRun, several, lone}
use Rattle.claim_board.specs.Kept.{among, owner_of_word, owners_of}
use Rattle.claim_board.proofs.Lists.{among_decides}
use Rattle.claim_board.proofs.Runs.{owns, Some-owns, owner_has}
use Rattle.claim_board.proofs.Steps.{not_owner, owner_below}

pub index_at : (row : List ℕ) (i n : ℕ) → get_elem? row i ≡ some n → slice_index row i ≡ n
index_at [] i n e = absurd (some-ne-none n (sym e))
index_at (x ∷ xs) zero n e = some-injective x n e
index_at (x ∷ xs) (suc i) n e = index_at xs i n e

pub owner_in_is : (row : List ℕ) (shard : ℕ) → owner_in (owners_of row) shard ≡ owner_of_word (slice_index row shard)
owner_in_is [] shard = refl
owner_in_is (x ∷ xs) zero = refl
owner_in_is (x ∷ xs) (suc shard) = owner_in_is xs shard

pub owner_in_at : (row : List ℕ) (shard n : ℕ) → get_elem? row shard ≡ some n → owner_in (owners_of row) shard ≡ owner_of_word n
owner_in_at row shard n e = owner_in_is row shard ∙ ap owner_of_word (index_at row shard n e)

pub owner_of_some : (n : ℕ) → n ≢ 0 → Some (n - 1) ≡ owner_of_word n
owner_of_some a1 a2 = search arith

pub owner_of_word_of : (now : Option ℕ) → owner_of_word (word_of now) ≡ now
owner_of_word_of a1 = search arith

-- ---- what the last state says

at_get : {A B : Type 0} (f : A → B) (l : List A) (i : ℕ) (a : A) → slice_get l i ≡ Some a → get_elem? (map f l) i ≡ some (f a)
at_get f [] i a e = absurd (cc)
at_get f (x ∷ xs) zero a e = let same : x ≡ a = cc in ap (λ y. some (f y)) same
at_get f (x ∷ xs) (suc i) a e = at_get f xs i a e

got_within : {A : Type 0} (l : List A) (i : ℕ) → i < length l → (a : A) × (slice_get l i ≡ Some a)
got_within [] i h = absurd (omega arith)
got_within (x ∷ xs) zero h = (x, refl)
got_within (x ∷ xs) (suc i) h = got_within xs i (omega arith)

module _ (key : Size) (row : List ℕ) (views : List View) (rule : AgreesWithRun key row views) where
  -- a word is 0 or encodes a seat
  pub word_within : (most shard : ℕ) → key.seats ≤ most → slice_index row shard ≤ most
  word_within most shard few = subst (λ n. n ≤ most) (sym (rule.words shard)) (of_owner (owner rule.run shard) refl)
    where
      of_owner : (now : Option ℕ) → owner rule.run shard ≡ now → word_of now ≤ most
      of_owner None is = omega arith
      of_owner (Some seat) is = let h = owner_below key row views rule shard seat is in omega arith

  pub came : (id : ℕ) (view : View) (seats : List SeatState) → get_elem? views id ≡ some view → view ≡ several view.size 0 (map (λ (seat : SeatState). seat.events) seats)
      → length seats ≡ key.seats → CameFromRun seats (owners_of row)
  came id view seats at view_is all = record {
    run = rule.run;
    is_run = rule.is_run;
    events = λ number seat got. (rule.known id view number seat.events at
        (subst (λ (v : View). Knows v number seat.events) (sym view_is) (number, omega arith, at_get (λ (s : SeatState). s.events) seats number seat got))).1;
    others = λ number past. rule.others number (omega arith);
    owners = λ shard. owner_in_is row shard ∙ ap owner_of_word (rule.words shard) ∙ owner_of_word_of (owner rule.run shard);
  }

-- if owners and seats came from one run, the owner of a shard is the seat whose list has it
pub owners_are : (seats : List SeatState) (by_shard : List (Option ℕ)) → CameFromRun seats by_shard → (shard number : ℕ) → (owner_in by_shard shard ≡ Some number) ↔ IsHeldBy seats number shard
owners_are seats by_shard came shard number = (there, back)
  where
    agrees : (seat : SeatState) → slice_get seats number ≡ Some seat → owns number (owner came.run shard) ≡ among shard (held seat.events)
    agrees seat got = owner_has came.run came.is_run number shard ∙ ap (λ es. among shard (held es)) (came.events number seat got)

    within : owner came.run shard ≡ Some number → number < length seats
    within is = ⊎_elim (λ (h : number < length seats). h) (λ (h : length seats ≤ number). absurd (not_owner came.run shard number came.is_run (came.others number h) is))
        (cases_lt number (length seats))

    there : owner_in by_shard shard ≡ Some number → IsHeldBy seats number shard
    there is =
        let owned = sym (came.owners shard) ∙ is in
        let seat = got_within seats number (within owned) in
        (seat.0, seat.1, (among_decides shard (held seat.0.events)).0 (sym (agrees seat.0 seat.1) ∙ ap (owns number) owned ∙ eq-eqb number number refl))

    back : IsHeldBy seats number shard → owner_in by_shard shard ≡ Some number
    back h = came.owners shard ∙ Some-owns number (owner came.run shard) (agrees h.0 h.1 ∙ (among_decides shard (held h.0.events)).1 h.2)

-- the view of the token to which all others were joined
pub kept_view : (kept token : Me (Unit {0}) View) (last : SeatState) (rest seats : List SeatState) → seats ≡ rest ++ last ∷ [] → token ≡ (lone token.0.size last.number last.events, [])
    → kept ≡ (several kept.0.size 0 (map (λ (seat : SeatState). seat.events) rest ++ token.0.lists), [])
    → kept.0 ≡ several kept.0.size 0 (map (λ (seat : SeatState). seat.events) seats)
kept_view kept token last rest seats is token_is kept_is = search (arith, map-append)
