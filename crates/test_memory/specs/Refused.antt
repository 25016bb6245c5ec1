-- Which allocations are made to fail, and what the gate says of one.
use Rattle.std.specs.Prelude.{ℕ, ◌<◌, ◌≤◌, ◌^◌, ◌↔◌, Bool, IsTrue}
use Rattle.test_memory.specs.declared.refusals.Refusals.{Refusals}

-- the allocation with this number is made to fail; numbers begin at 1
abbrev pub IsRefused : Refusals → ℕ → Type 0
IsRefused refusals number = (refusals.first ≤ number) × (number ≤ refusals.last)

-- what the gate says of an allocation: it has a number from 1 on, and it is made to fail exactly if that number is
-- refused
pub record IsSaidOf (refusals : Refusals) (refused : Bool) : Type 0 where
  pub number : ℕ
  pub from_one : 1 ≤ number
  pub below : number < 2 ^ 64
  pub refused_is : IsTrue refused ↔ IsRefused refusals number

-- an allocation that is passed on: its number isn't refused
pub record IsLetPass (refusals : Refusals) : Type 0 where
  pub number : ℕ
  pub from_one : 1 ≤ number
  pub below : number < 2 ^ 64
  pub passes : ¬ IsRefused refusals number
