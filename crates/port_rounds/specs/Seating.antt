-- What the steps of a pass that ask no port do to the lanes.
use Rattle.std.specs.Prelude.{◌≡◌, [], None, is_some}
use Rattle.round_theory.specs.Ports.{PortState}
use Rattle.port_rounds.specs.Lanes.{LaneState}

-- a lane that may have got more memory for answers
pub record GainsRoom {P : Type 0} (before after : LaneState P) : Type 0 where
  pub port : after.port ≡ before.port
  pub seat : after.seat ≡ before.seat
  pub kept : after.kept ≡ before.kept

-- a lane that got a seat, if its port is open
pub record GainsSeat {P : Type 0} (state : P → PortState) (before after : LaneState P) : Type 0 where
  pub port : after.port ≡ before.port
  pub kept : after.kept ≡ before.kept
  pub room : after.room ≡ before.room
  pub seat : is_some after.seat ≡ (state before.port).is_open

-- a lane whose seat was taken back
pub record LosesSeat {P : Type 0} (before after : LaneState P) : Type 0 where
  pub port : after.port ≡ before.port
  pub kept : after.kept ≡ before.kept
  pub seat : after.seat ≡ None

-- a lane whose answers the book took
pub record LosesAnswers {P : Type 0} (before after : LaneState P) : Type 0 where
  pub port : after.port ≡ before.port
  pub seat : after.seat ≡ before.seat
  pub none_kept : after.kept ≡ []
