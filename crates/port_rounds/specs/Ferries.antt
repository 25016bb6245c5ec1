-- A lane before its ferry and after it.
use Rattle.std.specs.Prelude.{◌≡◌, ℕ, ◌+◌, ◌*◌, ◌/◌, ◌%◌, ◌<◌, ◌≤◌, List, [], length, map, Vec, Option, Some, None, All, AllPairs, IfSome, is_some, vec_capacity}
use Rattle.claim_board.specs.State.{BoardState, SeatState, IsUnusedSeat}
use Rattle.claim_board.specs.Machine.{held}
use Rattle.links.specs.AnswerValue.{AnswerValue}
use Rattle.round_core.specs.BookValue.{BookValue}
use Rattle.round_theory.specs.declared.port.Port as Port
use Rattle.round_theory.specs.Ports.{PortState}
use Rattle.port_rounds.specs.Lanes.{LaneState}
use Rattle.port_rounds.specs.Bounds.{HasRoomForPass}
use Rattle.port_rounds.specs.Asks.{AnswersAsks, TakesExchange, ClosesPort, Takes, IsLight, shards_of}

-- a lane with which a ferry may begin, over a board and a book
pub record IsReady {P : Type 0} (state : P → PortState) (board : BoardState) (value : BookValue) (lane : LaneState P) : Type 0 where
  pub bound : HasRoomForPass state value lane.port
  pub seated : (state lane.port).is_open ≡ is_some lane.seat
  pub seat : IfSome lane.seat (IsUnusedSeat board)
  pub none_kept : lane.kept ≡ []
  pub room : length value.cut ≤ lane.room

-- the seat after a ferry, which holds exactly these shards
abbrev pub HoldsShards : Option SeatState → Option SeatState → List ℕ → Type 0
HoldsShards None after shards = (after ≡ None) × (shards ≡ [])
HoldsShards (Some before) None shards = ⊥
HoldsShards (Some before) (Some after) shards = (after.board ≡ before.board) × (after.number ≡ before.number) × (held after.events ≡ shards)

-- the shard at which a seat of `seats` begins to go around the shards
abbrev pub first_of : ℕ → ℕ → ℕ → ℕ
first_of seat seats shards = seat * shards / seats

-- the shard at a step of the way around
abbrev pub shard_at : ℕ → ℕ → ℕ → ℕ
shard_at first step shards = (first + step) % shards

-- shards that are reached in some of the steps of the way around, in the order of the steps
pub record AreOnWay (first shards steps : ℕ) (passed : List ℕ) : Type 0 where
  pub chosen : List ℕ
  pub ascending : AllPairs (λ earlier later. earlier < later) chosen
  pub within : All (λ step. step < steps) chosen
  pub passed_are : passed ≡ map (λ step. shard_at first step shards) chosen

-- the shards come in the order of the seat's way, once around all shards of its board
abbrev pub IsWayOf : SeatState → List ℕ → Type 0
IsWayOf seat passed = AreOnWay (first_of seat.number seat.board.seats seat.board.shards) seat.board.shards seat.board.shards passed

-- A lane before and after its ferry. It kept answers that the book takes, each for a shard that its seat holds, in the
-- order of the seat's way around.
pub record RunsFerry {P A : Type 0} (port : Port.Ghosts P A) (value : BookValue) (before after : LaneState P) : Type 0 where
  pub asked : AnswersAsks port (TakesExchange value) (ClosesPort value) before.port after.port after.kept
  pub seat : HoldsShards before.seat after.seat (shards_of after.kept)
  pub taken : All (Takes value) after.kept
  pub light : port.honest before.port → All (IsLight value) after.kept
  pub way : IfSome before.seat (λ seat. IsWayOf seat (shards_of after.kept))

-- a lane with a seat, from its parts
abbrev pub seated_lane : {P A : Type 0} → P → SeatState → Vec AnswerValue A → LaneState P
seated_lane port seat kept = record { port = port; seat = Some seat; kept = kept.items; room = vec_capacity kept }
