-- An arc line of a file: its two endpoints and its weight.
use Rattle.std.specs.Prelude.{ℕ, ℤ}

pub record Arc : Type 0 where
  pub tail : ℕ
  pub head : ℕ
  pub weight : ℤ
