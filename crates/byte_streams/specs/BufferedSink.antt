-- The state of a sink over memory that shows which of its bytes wait for a flush.
use Rattle.std.specs.Prelude.{ℕ, List}

-- the bytes taken, how many of them were flushed, and the capacity in bytes
pub record BufferedSinkState : Type 0 where
  pub held : List ℕ
  pub flushed : ℕ
  pub capacity : ℕ
