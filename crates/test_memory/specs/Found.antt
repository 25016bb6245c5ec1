-- What is found about work whose allocations are made to fail in turn.
use Rattle.std.specs.Prelude.{◌≡◌, ℕ, ◌+◌, ◌<◌, ◌≤◌, true, false, ⊤}
use Rattle.test_memory.specs.declared.in_turn.Found.{Found}
use Rattle.test_memory.specs.declared.in_turn.Found.TheVariants.{Each, Passes, Fails, Leaks, More}
use Rattle.test_memory.specs.declared.in_turn.Ran.{Ran}

-- What a run shows, if the search ends with it. In the run, all allocations from `number` on were made to fail. Either
-- a block was left, or the work succeeded although an allocation failed, or it failed although none did, or it
-- succeeded and none failed.
abbrev pub IsFoundOf : ℕ → Ran → Found → Type 0
IsFoundOf number ran (Leaks k) = (k ≡ number) × (0 < ran.live)
IsFoundOf number ran (Passes k) = (k ≡ number) × (ran.live ≡ 0) × (number ≤ ran.asked) × (ran.well ≡ true)
IsFoundOf number ran (Fails k) = (k ≡ number) × (ran.live ≡ 0) × (ran.asked < number) × (ran.well ≡ false)
IsFoundOf number ran (Each k) = (k + 1 ≡ number) × (ran.live ≡ 0) × (ran.asked < number) × (ran.well ≡ true)
IsFoundOf number ran More = ⊥

-- what can be found if at most `most` allocations are made to fail in turn: a smaller number of allocations, or one's
-- number
abbrev pub IsWithin : ℕ → Found → Type 0
IsWithin most (Each k) = k < most
IsWithin most (Passes k) = (0 < k) × (k ≤ most)
IsWithin most (Fails k) = (0 < k) × (k ≤ most)
IsWithin most (Leaks k) = (0 < k) × (k ≤ most)
IsWithin most More = ⊤
