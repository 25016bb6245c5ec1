-- Picks as numbers, which compare as the keys of the picked links do. A number consists of the weight, relative to the
-- least one, then the lower endpoint, then the higher endpoint.
use Rattle.std.specs.Prelude.{◌≡◌, ◌≢◌, ℕ, ◌+◌, ◌-◌, ◌/◌, ◌%◌, ◌^◌, ◌<◌, ◌≤◌, ◌⊎◌, pos, ◌+ℤ◌, ◌-ℤ◌}
use Rattle.std.specs.Prelude.{List, slice_index, Option, Some, None}
use Rattle.std.specs.Int.{w64, int_wrap}
use Rattle.std.proofs.Common.{inl, inr}
use Rattle.std.proofs.lemmas.Bool.{cases_lt}
use Rattle.std.proofs.lemmas.Int.{SFits-int_wrap}
use Rattle.limits.specs.declared.TheConstants.{MAX_VERTICES}
use Rattle.links.specs.declared.links.Link.{Link}
use Rattle.links.specs.WideKey.{wide_key}

-- the number of the link's key: the key as one signed number, relative to the least one of 128 bits
abbrev pub IsKeyNumber : Link → ℕ → Type 0
IsKeyNumber l k = pos k ≡ wide_key l +ℤ pos (2 ^ 127)

-- the number of no pick, greater than those of all keys
abbrev pub no_pick : ℕ
no_pick = 2 ^ 128 - 1

-- the number of a link's key, or that of no pick
abbrev pub IsPickNumber : ℕ → Type 0
IsPickNumber k = (k ≡ no_pick) ⊎ ((l : Link) × IsKeyNumber l k)

-- the first `k` labels have the number of no pick, and the others what they had
abbrev pub AreCleared : List ℕ → ℕ → List ℕ → List ℕ → Type 0
AreCleared labels k old new = (i : ℕ) → (slice_index new i ≡ no_pick) ⊎ ((slice_index new i ≡ slice_index old i) × ((j : ℕ) → j < k → slice_index labels j ≢ i + 1))

-- The link with a weight of 64 bits, relative to the least one, and two endpoints, if they are a link's.
abbrev pub link_of : (above low high : ℕ) → (0 < low) ⊎ (low ≤ 0) → (low < high) ⊎ (high ≤ low)
    → (MAX_VERTICES < high) ⊎ (high ≤ MAX_VERTICES) → Option Link
link_of above low high (inl from_one) (inl ascending) (inr in_limit) =
    Some (record {
      weight = int_wrap w64 (pos above -ℤ pos (2 ^ 63));
      low = low;
      high = high;
      from_one = from_one;
      ascending = ascending;
      in_limit = in_limit;
      weight_fits = SFits-int_wrap w64 (pos above -ℤ pos (2 ^ 63));
    })
link_of above low high _ _ _ = None

-- the pick with a number: the link whose key has the number, if there is one
unfoldable pub pick_in : ℕ → Option Link
pick_in k =
    let above : ℕ = k / 2 ^ 64 in
    let low : ℕ = k / 2 ^ 32 % 2 ^ 32 in
    let high : ℕ = k % 2 ^ 32 in
    link_of above low high (cases_lt 0 low) (cases_lt low high) (cases_lt MAX_VERTICES high)
