-- Sizes of the shards of an even cut. No shard is larger than a bound exactly if the bound times the number of shards
-- is at least the number of links.
use Rattle.std.proofs.Common.{◌≡◌, ℕ, zero, suc, ◌+◌, ◌*◌, ◌/◌, ◌<◌, ◌≤◌, ◌⊎◌, ap, ◌∙◌, inl, inr, arith, Some}
use Rattle.std.proofs.lemmas.Bool.{cases_lt}
use Rattle.std.proofs.lemmas.Bool.Decides.{nat_tests}
use Rattle.std.proofs.Math.Nat.{mul-div_cancel, mul_comm, suc-mul, add-mul, one-mul, zero-div, zero-mul, lt-div-mul-add, div-lt_iff_lt-mul}
use Rattle.limits.specs.declared.TheConstants.{MAX_SHARD_LINKS}
use Rattle.links.specs.declared.cuts.CutFault.TheVariants.{ShardTooLarge}
use Rattle.links.specs.Cut.{even_size, even_refusal, HasLargeShard, RefusedForALargeShard}

module _ (most count len : ℕ) (some : 0 < count) where
  -- one of the first k shards is larger than the bound
  abbrev LargeBefore : ℕ → Type 0
  LargeBefore k = (i : ℕ) × (i < k) × (most < even_size len count i)

  -- if none of the first k shards is larger, together they have at most k times the bound
  large_or_few : (k : ℕ) → LargeBefore k ⊎ (k * len / count ≤ k * most)
  large_or_few zero = inr (omega (arith, ap (λ x. x / count) (zero-mul len), zero-div count))
  large_or_few (suc k) = elim (large_or_few k) [
    | inl large ↦ inl (large.0, omega (arith, large.1), large.2)
    | inr few ↦ elim (cases_lt most (even_size len count k)) [
      | inl large ↦ inl (k, omega arith, large)
      | inr small ↦ search (arith, suc-mul)
    ]
  ]

  -- so if the shards can't hold all links at the bound, one is larger
  pub one_is_large : most * count < len → LargeBefore count
  one_is_large many = elim (large_or_few count) [
    | inl large ↦ large
    | inr few ↦ absurd (omega (arith, few, many, ap (λ x. x / count) (mul_comm count len), mul-div_cancel len some, mul_comm count most))
  ]

  -- if they can, none is larger
  pub none_is_large : len ≤ most * count → (i : ℕ) → even_size len count i ≤ most
  none_is_large few i = search (arith, add-mul, one-mul, lt-div-mul-add, div-lt_iff_lt-mul)

pub refused_for_a_large_shard : RefusedForALargeShard
refused_for_a_large_shard len count some few = (to, from) where
  to : even_refusal len count ≡ Some ShardTooLarge → HasLargeShard len count
  to refused = search (arith, cases_lt, one_is_large, nat_tests)

  from : HasLargeShard len count → even_refusal len count ≡ Some ShardTooLarge
  from (i, within, large) = elim (cases_lt (MAX_SHARD_LINKS * count) len) [
    | inl many ↦ grind (arith, nat_tests, many, some, few)
    | inr fits ↦ absurd (omega (arith, large, none_is_large MAX_SHARD_LINKS count len some fits i))
  ]
