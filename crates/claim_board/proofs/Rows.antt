-- Lists of seats whose numbers are their indices, and the view of a token when seats are dealt and gathered.
use Rattle.std.proofs.Common.{◌≡◌, ◌⊎◌, ℕ, zero, suc, ◌+◌, ◌-◌, ◌<◌, List, [], ◌∷◌, ◌++◌, All, length, replicate, Some, slice_get, refl, sym, ap, ◌∙◌, subst, inl, inr, ⊎_elim, arith}
use Rattle.std.proofs.lemmas.List.Elements.{All-push}
use Rattle.atomic_table.specs.Table.{Me, Joins}
use Rattle.atomic_table.specs.Seated.{TableId}
use Rattle.claim_board.specs.declared.event.Event.{Event}
use Rattle.claim_board.specs.declared.rule.Size.{Size}
use Rattle.claim_board.specs.declared.rule.View.{View}
use Rattle.claim_board.specs.State.{BoardState, SeatState, InOrder}
use Rattle.claim_board.specs.Rule.{several, lone, without_first, with_before, nobody}
use Rattle.claim_board.specs.Kept.{InOrderAt}
use Rattle.claim_board.proofs.Steps.{Rules}
use Rattle.claim_board.proofs.Places.{join_allowed}

-- ---- one seat is added or removed

pub get_end : {A : Type 0} (l : List A) (a b : A) (i : ℕ) → slice_get (l ++ a ∷ []) i ≡ Some b → (slice_get l i ≡ Some b) ⊎ ((i ≡ length l) × (a ≡ b))
get_end [] a b zero e = inr (refl, cc)
get_end [] a b (suc i) e = absurd (cc)
get_end (x ∷ xs) a b zero e = inl e
get_end (x ∷ xs) a b (suc i) e = ⊎_elim (λ h. inl h) (λ (t : (i ≡ length xs) × (a ≡ b)). inr (ap suc t.0, t.1)) (get_end xs a b i e)

pub get_front : {A : Type 0} (l : List A) (a b : A) (i : ℕ) → slice_get l i ≡ Some b → slice_get (l ++ a ∷ []) i ≡ Some b
get_front [] a b i e = absurd (cc)
get_front (x ∷ xs) a b zero e = e
get_front (x ∷ xs) a b (suc i) e = get_front xs a b i e

pub get_last : {A : Type 0} (l : List A) (a : A) → slice_get (l ++ a ∷ []) (length l) ≡ Some a
get_last [] a = refl
get_last (x ∷ xs) a = get_last xs a

pub InOrder-push : (board : BoardState) (seats new : List SeatState) (seat : SeatState) (number : ℕ) → new ≡ seats ++ seat ∷ [] → InOrder board seats
    → seat ≡ record { board = board; number = number; events = [] } → number ≡ length seats → InOrder board new
InOrder-push board seats new seat number is old fresh here at other got = search (arith, slice_get, get_end)

pub no_events-push : (board : BoardState) (seats new : List SeatState) (seat : SeatState) (number : ℕ) → new ≡ seats ++ seat ∷ [] → All (λ (s : SeatState). s.events ≡ []) seats
    → seat ≡ record { board = board; number = number; events = [] } → All (λ (s : SeatState). s.events ≡ []) new
no_events-push board seats new seat number is old fresh = subst (All (λ (s : SeatState). s.events ≡ [])) (sym is)
    (All-push (λ (s : SeatState). s.events ≡ []) seats seat old (ap (λ (s : SeatState). s.events) fresh))

pub InOrderAt-front : (table : TableId) (seats whole : List SeatState) (seat : SeatState) → whole ≡ seats ++ seat ∷ [] → InOrderAt table whole → InOrderAt table seats
InOrderAt-front table seats whole seat is old number other at = old number other (ap (λ l. slice_get l number) is ∙ get_front seats seat other number at)

pub InOrderAt-last : (table : TableId) (seats whole : List SeatState) (seat : SeatState) → whole ≡ seats ++ seat ∷ []
    → InOrderAt table whole → (seat.board.table ≡ table) × (seat.number ≡ length seats)
InOrderAt-last table seats whole seat is old = old (length seats) seat (ap (λ l. slice_get l (length seats)) is ∙ get_last seats seat)

-- ---- the view when seats are dealt

replicate-step : {A : Type 0} (n : ℕ) (a : A) → 0 < n → replicate n a ≡ a ∷ replicate (n - 1) a
replicate-step a1 a2 a3 = search arith

module _ (me : Me (Unit {0}) View) (n count : ℕ) (is : me ≡ (several me.0.size n (replicate count []), [])) (some : 0 < count) where
  pub lists_are : me.0.lists ≡ [] ∷ replicate (count - 1) []
  lists_are = ap (λ (m : Me (Unit {0}) View). m.0.lists) is ∙ replicate-step count [] some

  pub dealt : (after : Me (Unit {0}) View) (next : ℕ) → after ≡ (without_first me.0, me.1) → next ≡ n + 1 → after ≡ (several after.0.size next (replicate (count - 1) []), [])
  dealt after next after_is next_is = search (arith, replicate, replicate-step)

-- ---- the view when seats are gathered

module _ (kept token : Me (Unit {0}) View) (number : ℕ) (events : List Event) (first : ℕ) (kept_is : kept ≡ (several kept.0.size first kept.0.lists, []))
    (token_is : token ≡ (lone token.0.size number events, [])) where
  pub joined_view : (after : Me (Unit {0}) View) → after ≡ (with_before kept.0 token.0, kept.1) → after ≡ (several token.0.size number (events ∷ kept.0.lists), [])
  joined_view after after_is = after_is ∙ (λ i. (with_before kept.0 (token_is i).0, (kept_is i).1))

  pub gathered : (after : Me (Unit {0}) View) → after ≡ (with_before kept.0 token.0, kept.1) → (after ≡ (several after.0.size number after.0.lists, [])) × (after.0.lists ≡ events ∷ kept.0.lists)
  gathered after after_is = subst (λ (m : Me (Unit {0}) View). (m ≡ (several m.0.size number m.0.lists, [])) × (m.0.lists ≡ events ∷ kept.0.lists)) (sym (joined_view after after_is)) (refl, refl)

  pub join_required : (key : Size) (id other : ℕ) → number + 1 ≡ first → Joins (Rules key) id kept.0 other token.0 (with_before kept.0 token.0) nobody
  join_required key id other before = search (arith, join_allowed)
