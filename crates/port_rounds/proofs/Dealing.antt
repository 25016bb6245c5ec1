-- Seats that are moved into lanes and back.
use Rattle.std.proofs.Common.{◌≡◌, ◌+◌, List, [], ◌∷◌, ◌++◌, length, refl, ap, sym, ◌∙◌, arith, append_assoc, length-append}
use Rattle.std.specs.Prelude.{Option, Some, None, MatchOption, option_to_list, All}
use Rattle.claim_board.specs.State.{SeatState}
use Rattle.std.proofs.lemmas.List.Sums.{sum_by-cons}
use Rattle.std.proofs.lemmas.List.Elements.{All-head, All-tail}
use Rattle.round_theory.specs.Ports.{PortState}
use Rattle.port_rounds.specs.Lanes.{LaneState, count_if, seats_of, open_count}

-- if a split gave no first element, there was none
pub no_first : {Y : Type 0} (r : Option Y) (none : Type 0) (some : Y → Type 0) → ((y : Y) → r ≡ Some y → ⊥) → MatchOption r none some → none
no_first a1 a2 a3 a4 a5 = search arith

module _ {P : Type 0} where
  pub open_cons : (state : P → PortState) (zs : List (LaneState P)) (x : LaneState P) (xs : List (LaneState P)) → zs ≡ x ∷ xs
      → open_count state zs ≡ count_if (state x.port).is_open + open_count state xs
  open_cons state zs x xs e = rw e (sum_by-cons (λ l. count_if (state l.port).is_open) x xs)

  pub no_seat_tail : (zs : List (LaneState P)) (x : LaneState P) (xs : List (LaneState P)) → zs ≡ x ∷ xs → All (λ l. l.seat ≡ None) zs → All (λ l. l.seat ≡ None) xs
  no_seat_tail zs x xs e a = All-tail (λ l. l.seat ≡ None) x xs (rw e at a)

  -- the seats taken out of the first lane, and then those out of the rest
  pub taken_back : (zs : List (LaneState P)) (x : LaneState P) (xs : List (LaneState P)) (old middle new : List SeatState) → zs ≡ x ∷ xs
      → middle ≡ old ++ option_to_list x.seat → new ≡ middle ++ seats_of xs → new ≡ old ++ seats_of zs
  taken_back zs x xs old middle new e f h = rw e (h ∙ (ap (λ o. o ++ seats_of xs) f ∙ append_assoc old (option_to_list x.seat) (seats_of xs)))

  pub seats_cons : (zs : List (LaneState P)) (x : LaneState P) (xs : List (LaneState P)) → zs ≡ x ∷ xs → length (seats_of zs) ≡ length (option_to_list x.seat) + length (seats_of xs)
  seats_cons zs x xs e = rw e (length-append (option_to_list x.seat) (seats_of xs))

  pub no_seat_head : (zs : List (LaneState P)) (x : LaneState P) (xs : List (LaneState P)) → zs ≡ x ∷ xs → All (λ l. l.seat ≡ None) zs → x.seat ≡ None
  no_seat_head zs x xs e a = All-head (λ l. l.seat ≡ None) x xs (rw e at a)

  pub none_dealt : (state : P → PortState) (zs : List (LaneState P)) → length zs ≡ 0 → (seats_of zs ≡ []) × (open_count state zs ≡ 0)
  none_dealt state [] none = (refl, refl)
  none_dealt state (x ∷ zs) none = absurd (omega arith)

-- if no seat of a row is left, the lanes have all of them
pub all_dealt : (row left seats : List SeatState) → row ≡ left ++ seats → length left ≡ 0 → (left ≡ []) × (seats ≡ row)
all_dealt row [] seats e none = (refl, sym e)
all_dealt row (s ∷ left) seats e none = absurd (omega arith)
