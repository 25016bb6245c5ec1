-- The seats of a board own different shards.
use Rattle.std.proofs.Common.{◌≡◌, ◌≢◌, ℕ, suc, ◌+◌, ◌-◌, ◌<◌, List, [], ◌∷◌, ◌++◌, length, get_or, refl, sym, subst, subst₂, inl, inr, arith, length-append}
use Rattle.std.specs.Prelude.{AllPairs, Contains, Option, Some, slice_get}
use Rattle.std.proofs.lemmas.Bool.{cases_lt}
use Rattle.std.proofs.lemmas.List.{get_or_append_left, get_or-append_right}
use Rattle.std.proofs.lemmas.List.Elements.{Contains-append_cases, Contains-get_or}
use Rattle.claim_board.specs.declared.event.Event.{Event}
use Rattle.claim_board.specs.Machine.{IsRun, of_seat, held}
use Rattle.claim_board.specs.State.{SeatState, all_held, CameFromRun}
use Rattle.claim_board.proofs.Held.{held_by_one_seat, held_once}

-- two lists, each without repeats, that have no element in common
apart_append : (xs ys : List ℕ) → AllPairs (λ a b. a ≢ b) xs → AllPairs (λ a b. a ≢ b) ys → ((s : ℕ) → Contains xs s → ¬ (Contains ys s)) → AllPairs (λ a b. a ≢ b) (xs ++ ys)
apart_append xs ys xs_apart ys_apart across i j d lt within = elim (cases_lt j (length xs)) [
  | inl j_left ↦ subst₂ (λ a b. a ≢ b) (sym (get_or_append_left xs ys d i (omega arith))) (sym (get_or_append_left xs ys d j j_left)) (xs_apart i j d lt j_left)
  | inr j_right ↦
      let j_in : j - length xs < length ys = omega (arith, within, length-append xs ys) in
      let at_j = get_or-append_right xs ys (length xs) j d refl j_right in
      let in_ys = Contains-get_or ys (j - length xs) d j_in in
      elim (cases_lt i (length xs)) [
        | inl i_left ↦ subst₂ (λ a b. a ≢ b) (sym (get_or_append_left xs ys d i i_left)) (sym at_j)
            (λ same. across (get_or xs i d) (Contains-get_or xs i d i_left) (subst (Contains ys) (sym same) in_ys))
        | inr i_right ↦
            let order : i - length xs < j - length xs = omega arith in
            subst₂ (λ a b. a ≢ b) (sym (get_or-append_right xs ys (length xs) i d refl i_right)) (sym at_j) (ys_apart (i - length xs) (j - length xs) d order j_in)
      ]
]

-- each of these is the seat of its number, and the numbers begin at n
abbrev AreOf : List Event → ℕ → List SeatState → Type 0
AreOf run n seats = (i : ℕ) (seat : SeatState) → slice_get seats i ≡ Some seat → of_seat (n + i) run ≡ seat.events

first_of : (run : List Event) (n : ℕ) (seat : SeatState) (seats : List SeatState) → AreOf run n (seat ∷ seats) → of_seat n run ≡ seat.events
first_of run n seat seats are = let same : n + 0 ≡ n = omega arith in subst (λ k. of_seat k run ≡ seat.events) same (are 0 seat refl)

others_of : (run : List Event) (n : ℕ) (seat : SeatState) (seats : List SeatState) → AreOf run n (seat ∷ seats) → AreOf run (n + 1) seats
others_of run n seat seats are i other at = let same : n + suc i ≡ n + 1 + i = omega arith in subst (λ k. of_seat k run ≡ other.events) same (are (suc i) other at)

-- a shard that one of these seats owns is in the list of its number
holder : (run : List Event) (n : ℕ) (seats : List SeatState) → AreOf run n seats → (s : ℕ) → Contains (all_held seats) s → (i : ℕ) × Contains (held (of_seat (n + i) run)) s
holder run n [] are s has = absurd (omega (arith, has.1))
holder run n (seat ∷ seats) are s has = elim (Contains-append_cases (held seat.events) (all_held seats) s has) [
  | inl mine ↦ (0, subst (λ (es : List Event). Contains (held es) s) (sym (are 0 seat refl)) mine)
  | inr later ↦
      let rest = holder run (n + 1) seats (others_of run n seat seats are) s later in
      let same : n + 1 + rest.0 ≡ n + suc rest.0 = omega arith in
      (suc rest.0, subst (λ k. Contains (held (of_seat k run)) s) same rest.1)
]

-- One seat after another: a seat's list has no repeats, and no later seat has a shard of it, because no two seats ever
-- do.
apart_from : (run : List Event) → IsRun run → (n : ℕ) (seats : List SeatState) → AreOf run n seats → AllPairs (λ a b. a ≢ b) (all_held seats)
apart_from run is_run n [] are = λ i j d lt within. absurd (omega arith)
apart_from run is_run n (seat ∷ seats) are =
    let first = first_of run n seat seats are in
    let others = others_of run n seat seats are in
    apart_append (held seat.events) (all_held seats)
    (subst (λ (es : List Event). AllPairs (λ a b. a ≢ b) (held es)) first (held_once run is_run n))
    (apart_from run is_run (n + 1) seats others)
    (λ s mine theirs.
    let at = holder run (n + 1) seats others s theirs in
    let same : n ≡ n + 1 + at.0 = held_by_one_seat run is_run n (n + 1 + at.0) s (subst (λ (es : List Event). Contains (held es) s) (sym first) mine) at.1 in
    omega (arith, same))

-- all lists of a closed board's seats together have no repeats
pub closed_apart : (seats : List SeatState) (by_shard : List (Option ℕ)) → CameFromRun seats by_shard → AllPairs (λ a b. a ≢ b) (all_held seats)
closed_apart seats by_shard came =
    apart_from came.run came.is_run 0 seats (λ i seat at. let same : i ≡ 0 + i = omega arith in subst (λ k. of_seat k came.run ≡ seat.events) same (came.events i seat at))
