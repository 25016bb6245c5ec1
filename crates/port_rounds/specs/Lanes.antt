-- The lanes of a run.
use Rattle.std.specs.Prelude.{◌≡◌, ℕ, Bool, true, false, List, [], Option, None, flat_map, option_to_list, sum_by}
use Rattle.claim_board.specs.State.{SeatState}
use Rattle.links.specs.AnswerValue.{AnswerValue}
use Rattle.round_theory.specs.Ports.{PortState}

-- a lane: its port, its seat if it has one, the answers that it kept, and how many of these it has memory for
pub record LaneState (P : Type 0) : Type 0 where
  pub port : P
  pub seat : Option SeatState
  pub kept : List AnswerValue
  pub room : ℕ

-- a lane between two passes
pub record IsIdle {P : Type 0} (lane : LaneState P) : Type 0 where
  pub no_seat : lane.seat ≡ None
  pub none_kept : lane.kept ≡ []

-- 1 if it holds, and otherwise 0
abbrev pub count_if : Bool → ℕ
count_if true = 1
count_if false = 0

-- ---- all lanes, in their order

-- the seats that they have
abbrev pub seats_of : {P : Type 0} → List (LaneState P) → List SeatState
seats_of lanes = flat_map (λ lane. option_to_list lane.seat) lanes

-- the answers that they kept
abbrev pub kept_answers : {P : Type 0} → List (LaneState P) → List AnswerValue
kept_answers lanes = flat_map (λ lane. lane.kept) lanes

-- how many asks their ports had
abbrev pub ask_count : {P : Type 0} → (P → PortState) → List (LaneState P) → ℕ
ask_count state lanes = sum_by (λ lane. (state lane.port).asks) lanes

-- how many of their ports are open
abbrev pub open_count : {P : Type 0} → (P → PortState) → List (LaneState P) → ℕ
open_count state lanes = sum_by (λ lane. count_if (state lane.port).is_open) lanes
