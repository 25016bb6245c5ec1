-- What a round does.
use Rattle.std.specs.Prelude.{◌≡◌, ℕ, ◌<◌, List, Option}
use Rattle.links.specs.declared.links.Link.{Link}
use Rattle.round_theory.specs.Offers.{IsNamed}
use Rattle.round_core.specs.BookValue.{BookValue, IsBookValue, opened, missing, hearings}
use Rattle.round_core.specs.Picks.{ArePicks}
use Rattle.round_theory.specs.declared.port.Port as Port
use Rattle.port_rounds.specs.Lanes.{LaneState, open_count}
use Rattle.port_rounds.specs.Passes.{RunsPasses}
use Rattle.port_rounds.specs.Scanned.{ScansShards}

-- first the ports were asked, and then the coordinator scanned `alone` shards alone, which it does only if no port is
-- open
pub record RunsRound {P A : Type 0} (port : Port.Ghosts P A) (old new : BookValue) (before after : List (LaneState P)) (alone : ℕ) : Type 0 where
  pub middle : BookValue
  pub passes : RunsPasses port old middle before after
  pub scans : ScansShards middle new alone
  pub all : missing new ≡ 0
  pub closed : 0 < alone → open_count port.state after ≡ 0

-- a whole round over a book that was opened for the cut under the labels: these are the picks of its answers
pub record PicksInRound {P A : Type 0} (port : Port.Ghosts P A) (round : ℕ) (cut : List (List Link)) (labels : List ℕ)
    (before after : List (LaneState P)) (picks : List (Option Link)) (alone : ℕ) : Type 0 where
  pub book : BookValue
  pub went : RunsRound port (opened round cut labels) book before after alone
  pub value : IsBookValue book
  pub picked : ArePicks labels (IsNamed (hearings book)) picks
