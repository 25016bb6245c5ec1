-- The numbers of picks: no two links have the same number, and the lesser of two numbers is that of the lesser link.
use Rattle.std.proofs.Common.{◌≡◌, ◌≢◌, ℕ, ◌+◌, ◌-◌, ◌*◌, ◌/◌, ◌%◌, ◌^◌, ◌<◌, ◌≤◌, ◌⊎◌, ◌↔◌, ℤ, pos, negsuc, List, length, map, get_or, Some, None, refl, sym, ap, ◌∙◌, subst, inl, inr, arith}
use Rattle.std.specs.Prelude.{Option, All, ◌+ℤ◌, ◌-ℤ◌, FitsSigned}
use Rattle.std.specs.Int.{w64, int_wrap}
use Rattle.std.proofs.lemmas.Bool.{cases_lt}
use Rattle.std.proofs.lemmas.Int.{ints, int_wrap_fits}
use Rattle.std.proofs.lemmas.List.{length-map, get_or-map}
use Rattle.limits.specs.declared.TheConstants.{MAX_VERTICES}
use Rattle.links.specs.declared.links.Link.{Link}
use Rattle.links.specs.Link.{IsBelow}
use Rattle.links.specs.WideKey.{wide_key}
use Rattle.links.proofs.Keys.{link_eq}
use Rattle.links.proofs.WideKeys.{wide_below}
use Rattle.round_core.specs.PickNumbers.{IsKeyNumber, no_pick, IsPickNumber, link_of, pick_in}
use Rattle.round_theory.specs.Labelling.{IsVertex}
use Rattle.round_core.specs.Picks.{pick_of, AreNoPicks}

-- endpoints that don't ascend aren't a link's
no_link : (above low high : ℕ) (b : (0 < low) ⊎ (low ≤ 0)) (c : (low < high) ⊎ (high ≤ low)) (d : (MAX_VERTICES < high) ⊎ (high ≤ MAX_VERTICES))
    → high ≤ low → link_of above low high b c d ≡ None
no_link above low high (inr b) c d le = refl
no_link above low high (inl b) (inr c) d le = refl
no_link above low high (inl b) (inl c) d le = absurd (omega (arith, c, le))

pub no_pick_is_none : (k : ℕ) → k ≡ no_pick → pick_in k ≡ None
unfolding pick_in
no_pick_is_none k is = search (arith, no_link, cases_lt)

-- a weight, relative to the least one
counted_weight : (w : ℤ) → FitsSigned w64 w → (above : ℕ) × (pos above ≡ w +ℤ pos (2 ^ 63))
counted_weight (pos n) fits = (n + 2 ^ 63, omega (arith, ints))
counted_weight (negsuc n) fits = (2 ^ 63 - 1 - n, omega (arith, ints, fits.sfits))

has_fields : (l : Link) (k : ℕ) → IsKeyNumber l k → (pos (k / 2 ^ 64) ≡ l.weight +ℤ pos (2 ^ 63)) × (k / 2 ^ 32 % 2 ^ 32 ≡ l.low) × (k % 2 ^ 32 ≡ l.high)
has_fields l k is = search (arith, counted_weight, ints)

is_link : (l : Link) (above low high : ℕ) (b : (0 < low) ⊎ (low ≤ 0)) (c : (low < high) ⊎ (high ≤ low)) (d : (MAX_VERTICES < high) ⊎ (high ≤ MAX_VERTICES))
    → pos above ≡ l.weight +ℤ pos (2 ^ 63) → low ≡ l.low → high ≡ l.high → link_of above low high b c d ≡ Some l
is_link l above low high (inl b) (inl c) (inr d) is_weight is_low is_high =
    let counted : pos above -ℤ pos (2 ^ 63) ≡ l.weight = omega (arith, ints, is_weight) in
    ap Some (link_eq _ l (ap (int_wrap w64) counted ∙ int_wrap_fits w64 l.weight l.weight_fits) is_low is_high)
is_link l above low high (inl b) (inl c) (inl d) is_weight is_low is_high = absurd (omega (arith, d, is_high, l.in_limit))
is_link l above low high (inl b) (inr c) d is_weight is_low is_high = absurd (omega (arith, c, is_low, is_high, l.ascending))
is_link l above low high (inr b) c d is_weight is_low is_high = absurd (omega (arith, b, is_low, l.from_one))

-- the number of a link determines it
pub key_is_pick : (l : Link) (k : ℕ) → IsKeyNumber l k → pick_in k ≡ Some l
unfolding pick_in
key_is_pick l k is =
    let fields = has_fields l k is in
    is_link l (k / 2 ^ 64) (k / 2 ^ 32 % 2 ^ 32) (k % 2 ^ 32) (cases_lt 0 (k / 2 ^ 32 % 2 ^ 32)) (cases_lt (k / 2 ^ 32 % 2 ^ 32) (k % 2 ^ 32)) (cases_lt MAX_VERTICES (k % 2 ^ 32))
    fields.0 fields.1 fields.2

-- each link has a number
to_number : ℤ → ℕ
to_number (pos n) = n
to_number (negsuc n) = 0

pub number_of : Link → ℕ
number_of l = to_number (wide_key l +ℤ pos (2 ^ 127))

pub has_number : (l : Link) → IsKeyNumber l (number_of l)
unfolding to_number number_of
has_number l = search (arith, to_number, negsuc, ints)

pub key_below_no_pick : (l : Link) (k : ℕ) → IsKeyNumber l k → k < no_pick
key_below_no_pick l k is = omega (arith, ints, is, l.ascending, l.in_limit, l.weight_fits)

pub below_is_less : (l m : Link) (j k : ℕ) → IsKeyNumber l j → IsKeyNumber m k → IsBelow l m → j < k
below_is_less l m j k l_is m_is below = let less = wide_below l m below in omega (arith, ints, less, l_is, m_is)

-- the pick with a number, made of its fields
pub pick_is : (k : ℕ) (x : Link) → IsPickNumber k → k ≢ no_pick → pos (k / 2 ^ 64) ≡ x.weight +ℤ pos (2 ^ 63) → k / 2 ^ 32 % 2 ^ 32 ≡ x.low → k % 2 ^ 32 ≡ x.high → Some x ≡ pick_in k
pick_is k x (inl none) some above low high = absurd (some none)
pick_is k x (inr (l, is)) some above low high = search (arith, has_fields, link_eq, key_is_pick, ints)

-- two numbers of picks are equal exactly if they have the same pick
pub same_pick : (j k : ℕ) → IsPickNumber j → IsPickNumber k → (j ≡ k) ↔ (pick_in j ≡ pick_in k)
same_pick j k j_is k_is = search (arith, no_pick_is_none, key_is_pick)

-- all numbers are that of no pick exactly if there are no picks
pub none_where_no_picks : (numbers : List ℕ) → All IsPickNumber numbers → All (λ k. k ≡ no_pick) numbers ↔ AreNoPicks (map pick_in numbers)
none_where_no_picks numbers are = (to, back)
  where
    to : All (λ k. k ≡ no_pick) numbers → AreNoPicks (map pick_in numbers)
    to none i d lt =
        let within : i < length numbers = omega (arith, lt, length-map numbers pick_in) in
        get_or-map pick_in numbers i no_pick d within ∙ no_pick_is_none (get_or numbers i no_pick) (none i no_pick within)

    at : (k : ℕ) → IsPickNumber k → pick_in k ≡ None → k ≡ no_pick
    at k (inl none) is_none = none
    at k (inr (l, is)) is_none = let wrong : Some l ≡ None = sym (key_is_pick l k is) ∙ is_none in absurd (cc)

    back : AreNoPicks (map pick_in numbers) → All (λ k. k ≡ no_pick) numbers
    back none i d lt = at (get_or numbers i d) (are i d lt) (sym (get_or-map pick_in numbers i d None lt) ∙ none i None (omega (arith, lt, length-map numbers pick_in)))

-- the pick of a label, from the list of all numbers
pub number_at : (numbers : List ℕ) (picks : List (Option Link)) (c x : ℕ) → map pick_in numbers ≡ picks → All IsPickNumber numbers
    → IsVertex (length picks) c → x ≡ get_or numbers (c - 1) x → IsPickNumber x × (pick_of picks c ≡ pick_in x)
number_at numbers picks c x picks_are all vertex at =
    let within : c - 1 < length numbers = omega (arith, vertex.0, vertex.1, ap length picks_are, length-map numbers pick_in) in (
      subst IsPickNumber (sym at) (all (c - 1) x within),
      ap (λ (ps : List (Option Link)). get_or ps (c - 1) None) (sym picks_are) ∙ get_or-map pick_in numbers (c - 1) x None within ∙ ap pick_in (sym at),
    )
