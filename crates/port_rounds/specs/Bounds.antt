-- What holds before a run, a round and its passes.
use Rattle.std.specs.Prelude.{◌≡◌, ℕ, ◌+◌, ◌-◌, ◌<◌, ◌≤◌, ◌^◌, List, length, All}
use Rattle.claim_board.specs.State.{BoardState}
use Rattle.limits.specs.declared.TheConstants.{MAX_SHARDS, MAX_VERTICES, MAX_WORKERS}
use Rattle.links.specs.declared.links.Link.{Link}
use Rattle.links.specs.Link.{EndsUpTo}
use Rattle.round_core.specs.BookValue.{BookValue, opened, missing}
use Rattle.round_core.specs.Solver.{Progress, vertices}
use Rattle.round_theory.specs.Ports.{PortState}
use Rattle.port_rounds.specs.Lanes.{LaneState}

-- a book whose shards may be asked about: there is one, its labels are those of all endpoints, and its round has a
-- number
pub record IsAskable (value : BookValue) : Type 0 where
  pub some_shard : 0 < length value.cut
  pub ends : All (EndsUpTo (length value.labels)) value.cut
  pub round : 1 ≤ value.round

pub record IsBoardOf (board : BoardState) (value : BookValue) : Type 0 where
  pub shards : board.shards ≡ length value.cut
  pub seats : board.seats ≤ MAX_WORKERS

-- a port of the book's cut that may be asked once about each shard
pub record HasRoomForPass {P : Type 0} (state : P → PortState) (value : BookValue) (port : P) : Type 0 where
  pub cut : (state port).cut ≡ value.cut
  pub count : (state port).asks + length value.cut < 2 ^ 64 - 1

-- A port of the book's cut, whose count can rise by the asks of all passes of a round. These are one for each missing
-- shard, and one that closes it.
pub record HasRoomForRound {P : Type 0} (state : P → PortState) (value : BookValue) (port : P) : Type 0 where
  pub cut : (state port).cut ≡ value.cut
  pub count : (state port).asks + (missing value + length value.cut + 1) < 2 ^ 64 - 1

-- the lanes can be asked for the solver's next round over the cut
pub record CanAskRound {P : Type 0} (state : P → PortState) (cut : List (List Link)) (p : Progress) (lanes : List (LaneState P)) : Type 0 where
  pub some_shard : 0 < length cut
  pub few_shards : length cut ≤ MAX_SHARDS
  pub ends : All (EndsUpTo (vertices p)) cut
  pub wide : All (λ lane. HasRoomForRound state (opened (p.rounds + 1) cut p.labels) lane.port) lanes

-- the lanes can be asked in a whole run for the vertices 1 to `n`: their ports are of the cut, and their counts can
-- rise enough
pub record CanRun {P : Type 0} (state : P → PortState) (n : ℕ) (cut : List (List Link)) (lanes : List (LaneState P)) : Type 0 where
  pub few_vertices : n ≤ MAX_VERTICES
  pub ends : All (EndsUpTo n) cut
  pub cuts : All (λ lane. (state lane.port).cut ≡ cut) lanes
  pub counts : All (λ lane. (state lane.port).asks < 2 ^ 63) lanes
