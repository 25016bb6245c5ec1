-- The seats of the lanes, before the ferries and after them.
use Rattle.std.specs.List.{AllZip}
use Rattle.std.proofs.Common.{◌≡◌, ℕ, zero, suc, ◌+◌, ◌<◌, ◌≤◌, List, [], ◌∷◌, ◌++◌, length, get_or, refl, ap, sym, subst, ◌∙◌, arith, length-append, append-nil}
use Rattle.std.specs.Prelude.{◌≢◌, Option, Some, None, All, AllPairs, IfSome, option_to_list, flat_map, slice_get}
use Rattle.std.proofs.lemmas.List.{map-append}
use Rattle.std.proofs.lemmas.List.Sums.{sum_by-cons}
use Rattle.std.proofs.lemmas.List.Concat.{flat_map-append, flat_map-cons}
use Rattle.std.proofs.lemmas.List.Elements.{All-append, All-tail}
use Rattle.claim_board.specs.State.{BoardState, SeatState, AreSeats, IsUnusedSeat, all_held}
use Rattle.claim_board.specs.Machine.{held}
use Rattle.round_core.specs.BookValue.{BookValue}
use Rattle.round_theory.specs.declared.port.Port as Port
use Rattle.round_theory.specs.Ports.{PortState}
use Rattle.port_rounds.specs.Lanes.{LaneState, count_if, seats_of, kept_answers, ask_count, open_count, IsIdle}
use Rattle.port_rounds.specs.Asks.{Takes, shards_of}
use Rattle.port_rounds.specs.Bounds.{HasRoomForPass}
use Rattle.port_rounds.specs.Ferries.{IsReady, HoldsShards, RunsFerry}
use Rattle.port_rounds.specs.Seating.{GainsSeat}
use Rattle.port_rounds.specs.Taking.{TakesAll}
use Rattle.port_rounds.proofs.Eaches.{each_at, each_length, each_append}
use Rattle.port_rounds.proofs.Takes.{Distinct, distinct_of, taken_of}

-- ---- before the ferries

if_some : {X : Type 0} (Q : X → Type 0) (o : Option X) (rest : List X) → All Q (option_to_list o ++ rest) → IfSome o Q
if_some Q None rest a = tt
if_some Q (Some x) rest a = a 0 x (omega arith)

all_rest : {X : Type 0} (Q : X → Type 0) (xs ys : List X) → All Q (xs ++ ys) → All Q ys
all_rest Q [] ys a = a
all_rest Q (x ∷ xs) ys a = all_rest Q xs ys (All-tail Q x (xs ++ ys) a)

pub seat_at : {P : Type 0} (Q : SeatState → Type 0) (lanes : List (LaneState P)) → All Q (seats_of lanes) → (i : ℕ) (d : LaneState P) → i < length lanes → IfSome (get_or lanes i d).seat Q
seat_at Q [] a i d b = absurd (omega arith)
seat_at Q (l ∷ ls) a zero d b = if_some Q l.seat (seats_of ls) a
seat_at Q (l ∷ ls) a (suc i) d b = seat_at Q ls (all_rest Q (option_to_list l.seat) (seats_of ls) a) i d (omega arith)

pub ready_all : {P : Type 0} (state : P → PortState) (board : BoardState) (value : BookValue) (xs ys : List (LaneState P))
    → All (λ (l : LaneState P). HasRoomForPass state value l.port) xs → All IsIdle xs
    → All (λ (l : LaneState P). length value.cut ≤ l.room) xs → AllZip (GainsSeat state) xs ys → All (IsUnusedSeat board) (seats_of ys) → All (IsReady state board value) ys
ready_all state board value xs ys bound idle room got fresh i d b =
    let within : i < length xs = omega (arith, each_length (GainsSeat state) xs ys got) in
    let r = each_at (GainsSeat state) xs ys got i d within in
    let k = bound i d within in
    let e : (get_or ys i d).port ≡ (get_or xs i d).port = r.port in
    record {
      bound = subst (λ p. HasRoomForPass state value p) (sym e) k;
      seated = ap (λ p. (state p).is_open) e ∙ sym r.seat;
      seat = seat_at (IsUnusedSeat board) ys fresh i d b;
      none_kept = r.kept ∙ (idle i d within).none_kept;
      room = rw r.room (room i d within);
    }

-- ---- the seats after the ferries

pub record SameSeat (s t : SeatState) : Type 0 where
  pub board_is : t.board ≡ s.board
  pub number : t.number ≡ s.number

found : (xs ys : List SeatState) → AllZip SameSeat xs ys → (i : ℕ) (t : SeatState) → slice_get ys i ≡ Some t → (s : SeatState) × (slice_get xs i ≡ Some s) × SameSeat s t
found [] [] p i t e = absurd (cc)
found [] (y ∷ ys) p i t e = absurd p
found (x ∷ xs) [] p i t e = absurd p
found (x ∷ xs) (y ∷ ys) p zero t e = (let f : y ≡ t = cc in (x, refl, subst (SameSeat x) f p.0))
found (x ∷ xs) (y ∷ ys) p (suc i) t e = found xs ys p.1 i t e

pub are_seats_then : (board : BoardState) (xs ys : List SeatState) → AreSeats board xs → AllZip SameSeat xs ys → AreSeats board ys
are_seats_then board xs ys are p = search (arith, each_length, found)

same_of : (a b : Option SeatState) (shards : List ℕ) → HoldsShards a b shards → AllZip SameSeat (option_to_list a) (option_to_list b)
same_of a1 a2 a3 a4 = search arith

holds_of : (a b : Option SeatState) (shards : List ℕ) → HoldsShards a b shards → flat_map (λ (s : SeatState). held s.events) (option_to_list b) ≡ shards
holds_of a1 a2 a3 a4 = search (arith, append-nil)

module _ {P A : Type 0} (port : Port.Ghosts P A) (value : BookValue) where
  pub same_seats : (xs ys : List (LaneState P)) → AllZip (RunsFerry port value) xs ys → AllZip SameSeat (seats_of xs) (seats_of ys)
  same_seats [] [] p = tt
  same_seats [] (y ∷ ys) p = absurd p
  same_seats (x ∷ xs) [] p = absurd p
  same_seats (x ∷ xs) (y ∷ ys) p = search (arith, each_append, same_of, same_seats xs ys p.1)

  -- the lists of the seats are the shards of what was kept
  pub held_kept : (xs ys : List (LaneState P)) → AllZip (RunsFerry port value) xs ys → all_held (seats_of ys) ≡ shards_of (kept_answers ys)
  held_kept [] [] p = refl
  held_kept [] (y ∷ ys) p = absurd p
  held_kept (x ∷ xs) [] p = absurd p
  held_kept (x ∷ xs) (y ∷ ys) p = search (arith, flat_map-append, holds_of, map-append, held_kept xs ys p.1)

  pub kept_all : (xs ys : List (LaneState P)) → AllZip (RunsFerry port value) xs ys → All (Takes value) (kept_answers ys)
  kept_all [] [] p = λ i d b. absurd (omega arith)
  kept_all [] (y ∷ ys) p = absurd p
  kept_all (x ∷ xs) [] p = absurd p
  kept_all (x ∷ xs) (y ∷ ys) p = All-append (Takes value) y.kept (kept_answers ys) p.0.taken (kept_all xs ys p.1)

  -- the answers that the ferries kept name each shard once, as the lists of the seats do, and the book takes them one
  -- after the other
  pub kept_apart : (xs ys : List (LaneState P)) (row : List SeatState) → AllZip (RunsFerry port value) xs ys → row ≡ seats_of ys → AllPairs (λ a b. a ≢ b) (all_held row)
      → Distinct (shards_of (kept_answers ys)) × TakesAll value (kept_answers ys)
  kept_apart xs ys row f back apart = search (arith, held_kept, distinct_of, taken_of, kept_all)

  -- the asks of all ports rose by the kept answers and by the ports that closed
  pub counted : (xs ys : List (LaneState P)) → AllZip (RunsFerry port value) xs ys
      → ask_count port.state ys + open_count port.state ys ≡ (ask_count port.state xs + length (kept_answers ys)) + open_count port.state xs
  counted [] [] p = refl
  counted [] (y ∷ ys) p = absurd p
  counted (x ∷ xs) [] p = absurd p
  counted (x ∷ xs) (y ∷ ys) p =
      let rest = counted xs ys p.1 in
      let first = p.0.asked.asks in
      omega (
        arith,
        rest,
        first,
        sum_by-cons (λ (l : LaneState P). (port.state l.port).asks) y ys,
        sum_by-cons (λ (l : LaneState P). (port.state l.port).asks) x xs,
        sum_by-cons (λ (l : LaneState P). count_if (port.state l.port).is_open) y ys,
        sum_by-cons (λ (l : LaneState P). count_if (port.state l.port).is_open) x xs,
        ap length (flat_map-cons (λ (l : LaneState P). l.kept) y ys),
        length-append y.kept (kept_answers ys),
      )
