-- Two parts of a list of links that share threads.
use Rattle.std.proofs.Common.{◌≡◌, ℕ, ◌+◌, ◌*◌, ◌/◌, ◌≤◌, sym, subst, arith}
use Rattle.std.proofs.Math.Nat.{mul-add, mul-le-mul_right, div-mul-le_self, le-div_iff_mul-le}

-- If the list has 32,768 links for each of a + b threads, so does each of its parts. The first part has, for each of
-- its a threads, the whole list's average number of links.
pub worth_parts : (links threads a b : ℕ) → 1 ≤ threads → 32768 * threads ≤ links → a + b ≡ threads
    → (32768 * a ≤ links / threads * a) × (links / threads * a + 32768 * b ≤ links)
worth_parts links threads a b some worth all =
    let each : 32768 ≤ links / threads = (le-div_iff_mul-le {k = threads} {x = 32768} {y = links} some).1 worth in
    let whole : links / threads * (a + b) ≤ links = subst (λ k. links / threads * k ≤ links) (sym all) (div-mul-le_self links threads) in
    let split : links / threads * (a + b) ≡ links / threads * a + links / threads * b = mul-add (links / threads) a b in
    let first : 32768 * a ≤ links / threads * a = mul-le-mul_right a each in
    let rest : 32768 * b ≤ links / threads * b = mul-le-mul_right b each in
    (first, omega (arith, whole, split, rest))
