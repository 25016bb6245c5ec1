-- What the contracts show of a board, of its seats and of the result of a claim.
use Rattle.std.specs.Prelude.{◌≡◌, ℕ, ◌<◌, ◌≤◌, List, [], length, flat_map, slice_get, slice_index_or, ⊤, Contains, Option, Some, None}
use Rattle.atomic_table.specs.Seated.{TableId}
use Rattle.claim_board.specs.declared.claim.Claim.{Claim}
use Rattle.claim_board.specs.declared.claim.Claim.TheVariants.{Won, Held}
use Rattle.claim_board.specs.declared.event.Event.{Event}
use Rattle.claim_board.specs.Machine.{owner, IsRun, of_seat, held}

-- which board it is, and how many shards and seats it has
pub record BoardState : Type 0 where
  pub table : TableId
  pub shards : ℕ
  pub seats : ℕ

-- the seat's board, its number there, and what it has done so far
pub record SeatState : Type 0 where
  pub board : BoardState
  pub number : ℕ
  pub events : List Event

-- the fact, if the claim was won
abbrev pub OnWon : Claim → Type 0 → Type 0
OnWon Won fact = fact
OnWon (Held by) fact = ⊤

-- the fact about the seat that owned the shard, if a seat did
abbrev pub IfHeld : Claim → (ℕ → Type 0) → Type 0
IfHeld Won fact = ⊤
IfHeld (Held by) fact = fact by

-- each of these is a seat of the board, and its number is its index
abbrev pub InOrder : BoardState → List SeatState → Type 0
InOrder board seats = (number : ℕ) (seat : SeatState) → slice_get seats number ≡ Some seat → (seat.board ≡ board) × (seat.number ≡ number)

-- these are all seats of the board, in order
pub record AreSeats (board : BoardState) (seats : List SeatState) : Type 0 where
  pub all : length seats ≡ board.seats
  pub in_order : InOrder board seats

-- a seat of the board that has done nothing yet
pub record IsUnusedSeat (board : BoardState) (seat : SeatState) : Type 0 where
  pub of_board : seat.board ≡ board
  pub number : seat.number < board.seats
  pub no_events : seat.events ≡ []

-- the shards that the seats own, seat by seat
abbrev pub all_held : List SeatState → List ℕ
all_held seats = flat_map (λ (seat : SeatState). held seat.events) seats

-- the seat with this number has the shard in its list
abbrev pub IsHeldBy : List SeatState → ℕ → ℕ → Type 0
IsHeldBy seats number shard = (seat : SeatState) × (slice_get seats number ≡ Some seat) × Contains (held seat.events) shard

-- the owner of a shard in a list with one entry per shard, and none for a shard that the board doesn't have
abbrev pub owner_in : List (Option ℕ) → ℕ → Option ℕ
owner_in owners shard = slice_index_or owners shard None

-- one run has the events of each of these seats, in that seat's order, each once, and no others, and leaves these
-- owners
pub record CameFromRun (seats : List SeatState) (by_shard : List (Option ℕ)) : Type 0 where
  pub run : List Event
  pub is_run : IsRun run
  pub events : (number : ℕ) (seat : SeatState) → slice_get seats number ≡ Some seat → of_seat number run ≡ seat.events
  pub others : (number : ℕ) → length seats ≤ number → of_seat number run ≡ []
  pub owners : (shard : ℕ) → owner_in by_shard shard ≡ owner run shard
