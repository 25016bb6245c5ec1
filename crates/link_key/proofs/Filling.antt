-- Numbers that are assigned one after the other, each to a label that has none.
use Rattle.std.proofs.Common.{◌≡◌, ◌≢◌, ℕ, ◌+◌, ◌<◌, ◌≤◌, ◌==◌, if◌then◌else◌, List, length, get_or, set, get_or-set_same, get_or-set_other, refl, sym, ap, ◌∙◌, subst, inl, inr, arith}
use Rattle.std.proofs.lemmas.List.Sums.{sum_by-set}
use Rattle.std.proofs.lemmas.List.{length-set}
use Rattle.std.proofs.lemmas.Bool.{cases_eq}
use Rattle.std.proofs.lemmas.Bool.Decides.{nat_tests}
use Rattle.link_key.specs.OpenLinks.{zeros, AreNumbers, AreFilled}

abbrev no_number : ℕ → ℕ
no_number k = if k == 0 then 1 else 0

none_is : (k : ℕ) → k ≡ 0 → no_number k ≡ 1
none_is k is = grind (arith, nat_tests)

some_is : (k : ℕ) → 0 < k → no_number k ≡ 0
some_is k some = grind (arith, nat_tests)

-- after a number is written, as many labels as before have none, or one fewer if a had none
zeros_set : (numbers : List ℕ) (a n : ℕ) → a < length numbers → 0 < n → zeros (set numbers a n) + no_number (get_or numbers a 0) ≡ zeros numbers
zeros_set numbers a n a_in some = search (arith, sum_by-set, some_is)

-- after two numbers are written, at most as many labels as before have none
pub zeros_two : (numbers : List ℕ) (a b n : ℕ) → a < length numbers → b < length numbers → 0 < n → zeros (set (set numbers a n) b n) ≤ zeros numbers
zeros_two numbers a b n a_in b_in some = search (arith, zeros_set, set, length-set)

pub zeros_two_fewer : (numbers : List ℕ) (a b n : ℕ) → a < length numbers → b < length numbers → 0 < n → get_or numbers a 0 ≡ 0 → zeros (set (set numbers a n) b n) + 1 ≤ zeros numbers
zeros_two_fewer numbers a b n a_in b_in some none = search (arith, zeros_set, none_is, set, length-set)

module _ {last i : ℕ} {numbers : List ℕ} (some : 0 < i) (i_in : i < length numbers) (none : get_or numbers i 0 ≡ 0) (are : AreNumbers last numbers) where
  at_i : get_or (set numbers i (last + 1)) i 0 ≡ last + 1
  at_i = get_or-set_same numbers i (last + 1) 0 i_in

  else_at : (c : ℕ) → c ≢ i → get_or (set numbers i (last + 1)) c 0 ≡ get_or numbers c 0
  else_at c other = get_or-set_other numbers i c (last + 1) 0 other

  pub numbers_one_more : AreNumbers (last + 1) (set numbers i (last + 1))
  numbers_one_more = search (arith, cases_eq, set, at_i, else_at, zeros_set, none_is, length-set)

  pub filled_one_more : (start : List ℕ) → AreFilled start numbers → AreFilled start (set numbers i (last + 1))
  filled_one_more start filled = search (arith, length-set, cases_eq, else_at, set, at_i)

-- before any label gets a number
pub filled_none : (numbers : List ℕ) → AreFilled numbers numbers
filled_none numbers = record { len = refl; kept = λ c had. refl; alone = λ c d had none same. absurd (omega (arith, had, none)) }
