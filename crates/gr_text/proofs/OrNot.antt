-- What holds or doesn't hold: two facts at once, one of two, and a number between two others.
use Rattle.std.proofs.Common.{ℕ, ◌≤◌, ◌⊎◌, inl, inr, arith}
use Rattle.std.proofs.lemmas.Bool.{cases_lt}

pub both_or_not : {P Q : Type 0} → P ⊎ ¬ P → Q ⊎ ¬ Q → (P × Q) ⊎ ¬ (P × Q)
both_or_not a1 a2 = search arith

pub either_or_not : {P Q : Type 0} → P ⊎ ¬ P → Q ⊎ ¬ Q → (P ⊎ Q) ⊎ ¬ (P ⊎ Q)
either_or_not a1 a2 = search arith

pub within_or_not : (low high n : ℕ) → ((low ≤ n) × (n ≤ high)) ⊎ ¬ ((low ≤ n) × (n ≤ high))
within_or_not low high n = search (arith, cases_lt)
