-- What is always true of the fields of a seat and of a board.
use Rattle.std.specs.Prelude.{◌≡◌, ℕ, zero, suc, ◌==◌, ◌<◌, ◌≤◌, Bool, List, [], map, slice_get, slice_index, Option, Some, None}
use Rattle.std.specs.List.{list_any}
use Rattle.atomic_table.specs.Seated.{TableId}
use Rattle.atomic_table.specs.Table.{Me}
use Rattle.claim_board.specs.Shards.{has_shard}
use Rattle.limits.specs.declared.TheConstants.{MAX_SHARDS, MAX_WORKERS}
use Rattle.claim_board.specs.declared.rule.Size.{Size}
use Rattle.claim_board.specs.declared.rule.View.{View}
use Rattle.claim_board.specs.Machine.{held}
use Rattle.claim_board.specs.Rule.{lone, first_events}
use Rattle.claim_board.specs.State.{BoardState, SeatState}

-- the shard is in the list
abbrev pub among : ℕ → List ℕ → Bool
among shard shards = list_any (λ s. s == shard) shards

-- what the contracts show of a board, and of a seat
abbrev pub board_state : TableId → Size → BoardState
board_state table size = record { table = table; shards = size.shards; seats = size.seats }

abbrev pub seat_state : TableId → View → SeatState
seat_state table view = record { board = board_state table view.size; number = view.first; events = first_events view.lists }

-- at least one shard and one seat, and no more than a board may have
pub record IsInRange (size : Size) : Type 0 where
  pub some_shard : 0 < size.shards
  pub shards : size.shards ≤ MAX_SHARDS
  pub some_seat : 0 < size.seats
  pub seats : size.seats ≤ MAX_WORKERS

-- the token's view has this number alone, and the bits are the shards of the seat's list
pub record IsSeat (me : Me (Unit {0}) View) (number : ℕ) (bits : List ℕ) : Type 0 where
  pub alone : me ≡ (lone me.0.size number (first_events me.0.lists), [])
  pub range : IsInRange me.0.size
  pub number_of_board : number < me.0.size.seats
  pub list : (shard : ℕ) → has_shard bits shard ≡ among shard (held (first_events me.0.lists))

-- a board's table has one word per shard, and no slots
pub record IsBoard (table : TableId) (size : Size) : Type 0 where
  pub range : IsInRange size
  pub words : table.words ≡ size.shards
  pub slots : table.slots ≡ 0

-- the owner that a word encodes, and the owners of a list of words
abbrev pub owner_of_word : ℕ → Option ℕ
owner_of_word zero = None
owner_of_word (suc seat) = Some seat

abbrev pub owners_of : List ℕ → List (Option ℕ)
owners_of row = map owner_of_word row

-- the token's view has this seat alone
pub record IsTokenOf (table : TableId) (me : Me (Unit {0}) View) (seat : SeatState) : Type 0 where
  pub table_is : table ≡ seat.board.table
  pub alone : me ≡ (lone me.0.size seat.number seat.events, [])

-- each of these is a seat of this table, and its number is its index
abbrev pub InOrderAt : TableId → List SeatState → Type 0
InOrderAt table seats = (number : ℕ) (seat : SeatState) → slice_get seats number ≡ Some seat → (seat.board.table ≡ table) × (seat.number ≡ number)

-- a closed table: one word per shard, each 0 or a seat's number plus 1, and no slots
pub record IsClosed (row : List ℕ) (words slots shards : ℕ) : Type 0 where
  pub words_count : words ≡ shards
  pub slots_count : slots ≡ 0
  pub of_seats : (shard : ℕ) → slice_index row shard ≤ MAX_WORKERS
