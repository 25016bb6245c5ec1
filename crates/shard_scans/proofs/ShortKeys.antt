-- Keys of 32 bits that never fall as weights rise.
use Rattle.std.proofs.Common.{◌-◌, ◌^◌, ℤ, pos, negsuc, w32, w64, FitsSigned, ◌<ℤ◌, ◌≤ℤ◌, arith}
use Rattle.std.proofs.lemmas.Int.{ints}
use Rattle.shard_scans.specs.Scanning.{short_key}

-- a key has 32 bits
pub key_fits : (w : ℤ) → FitsSigned w64 w → FitsSigned w32 (short_key w)
key_fits a1 a2 = search arith

-- no key is above that of no link
pub not_above_all : (w : ℤ) → FitsSigned w64 w → ¬ (pos (2 ^ 31 - 1) <ℤ short_key w)
not_above_all a1 a2 a3 = search (arith, ints)

-- a weight that is no greater has no greater key
pub keys_keep_order : (v w : ℤ) → v ≤ℤ w → ¬ (short_key w <ℤ short_key v)
keys_keep_order a1 a2 a3 a4 = search (arith, ints)
