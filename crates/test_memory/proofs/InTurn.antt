-- What a run shows is within the numbers that are tried.
use Rattle.std.proofs.Common.{ℕ, ◌<◌, ◌≤◌, arith}
use Rattle.test_memory.specs.declared.in_turn.Found.{Found}
use Rattle.test_memory.specs.declared.in_turn.Found.TheVariants.{Each, Passes, Fails, Leaks, More}
use Rattle.test_memory.specs.declared.in_turn.Ran.{Ran}
use Rattle.test_memory.specs.Found.{IsFoundOf, IsWithin}

pub found_within : (number most : ℕ) (ran : Ran) (found : Found) → IsFoundOf number ran found → 0 < number → number ≤ most → IsWithin most found
found_within number most ran (Each k) is some le = omega (arith, is.0, le)
found_within number most ran (Passes k) is some le = (omega (arith, is.0, some), omega (arith, is.0, le))
found_within number most ran (Fails k) is some le = (omega (arith, is.0, some), omega (arith, is.0, le))
found_within number most ran (Leaks k) is some le = (omega (arith, is.0, some), omega (arith, is.0, le))
found_within number most ran More is some le = absurd is
