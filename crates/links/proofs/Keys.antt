-- The order of keys is total, and links with equal keys are equal. So an ascending list is determined by its members.
use Rattle.std.proofs.Common.{◌≡◌, ◌+◌, ◌<◌, ◌≤◌, ◌^◌, Bool, true, false, IsTrue, is_lt, ◌⊎◌, ◌↔◌, List, ◌∷◌, Contains, get_or, Ordering, Less, Equal, Greater, int_cmp, nat_cmp, refl, ap}
use Rattle.std.proofs.Common.{◌∙◌, subst, inl, inr, arith}
use Rattle.std.specs.Ordering.{ordering_then, ordering_reverse}
use Rattle.std.specs.List.{IsAllAdjacentAnswer}
use Rattle.std.specs.List.Sorted.{IsSorted}
use Rattle.std.specs.Prelude.{FitsSigned}
use Rattle.std.specs.Int.{w64}
use Rattle.std.specs.Cmp.{IsTotalOrder}
use Rattle.std.proofs.lemmas.Cmp.{int_cmp_total, nat_cmp_total, on_total, then_total, tied_itself}
use Rattle.std.proofs.lemmas.Map.Lookups.{exact_signed, exact_unsigned, exact_pairs}
use Rattle.std.proofs.Math.Bridge.{le_prop}
use mathlib.Core.HLevel.{is_prop→PathP}
use Rattle.links.specs.declared.links.Link.{Link}
use Rattle.links.specs.Link.{key_cmp, IsBelow, IsAscending}
use Rattle.links.proofs.Neighbours.{all_pairs_by_neighbours}
use Rattle.links.proofs.Members.{ascends_head, ascends_tail, same_ascending}

-- A link is determined by its weight and endpoints, because its ghost facts are propositions.
pub link_eq : (l m : Link) → l.weight ≡ m.weight → l.low ≡ m.low → l.high ≡ m.high → l ≡ m
link_eq l m weight low high = λ i. record {
  weight = weight i;
  low = low i;
  high = high i;
  from_one = is_prop→PathP (λ j. 1 ≤ low j) (λ j. le_prop) l.from_one m.from_one i;
  ascending = is_prop→PathP (λ j. low j < high j) (λ j. le_prop) l.ascending m.ascending i;
  in_limit = is_prop→PathP (λ j. high j ≤ 2 ^ 26) (λ j. le_prop) l.in_limit m.in_limit i;
  weight_fits = is_prop→PathP (λ j. FitsSigned w64 (weight j)) (λ j. hlevel le_prop) l.weight_fits m.weight_fits i;
}

pub key_cmp_total : IsTotalOrder key_cmp
key_cmp_total =
    then_total
    (on_total (λ (l : Link). l.weight) int_cmp_total)
    (then_total (on_total (λ (l : Link). l.low) nat_cmp_total) (on_total (λ (l : Link). l.high) nat_cmp_total))

-- links that compare as equal are equal
pub equal_keys : (l m : Link) → key_cmp l m ≡ Equal → l ≡ m
equal_keys l m tied = search (arith, exact_pairs, int_cmp, nat_cmp, exact_signed, exact_unsigned, link_eq)

pub below_trans : (k l m : Link) → IsBelow k l → IsBelow l m → IsBelow k m
below_trans k l m = key_cmp_total.trans k l m

pub below_irrefl : (l : Link) → IsBelow l l → ⊥
below_irrefl l below = let tied = tied_itself key_cmp_total l in cc

pub below_asymm : (l m : Link) → IsBelow l m → IsBelow m l → ⊥
below_asymm l m below above = below_irrefl l (below_trans l m l below above)

-- one of two links is below the other, or they are equal
pub trichotomy : (l m : Link) → IsBelow l m ⊎ (l ≡ m) ⊎ IsBelow m l
trichotomy l m = search (arith, equal_keys)

pub link_dec : (l m : Link) → (l ≡ m) ⊎ (¬ (l ≡ m))
link_dec l m = elim (trichotomy l m) [
  | inl below ↦ inr (λ same. below_irrefl m (subst (λ k. IsBelow k m) same below))
  | inr rest ↦ elim rest [
    | inl same ↦ inl same
    | inr above ↦ inr (λ same. below_irrefl m (subst (λ k. IsBelow m k) same above))
  ]
]

pub below_dec : (l m : Link) → IsBelow l m ⊎ (¬ (IsBelow l m))
below_dec l m = search (arith, trichotomy, below_irrefl, below_asymm)

-- the first link of an ascending list is below every other link
pub ascending_head : (l : Link) (ls : List Link) → IsAscending (l ∷ ls) → (m : Link) → Contains ls m → IsBelow l m
ascending_head = ascends_head IsBelow

pub ascending_tail : (l : Link) (ls : List Link) → IsAscending (l ∷ ls) → IsAscending ls
ascending_tail = ascends_tail IsBelow

pub same_members : (xs ys : List Link) → IsAscending xs → IsAscending ys → ((l : Link) → Contains xs l ↔ Contains ys l) → xs ≡ ys
same_members = same_ascending IsBelow below_irrefl below_asymm

-- the test for the order of two links
abbrev pub is_below : Link → Link → Bool
is_below l m = is_lt (key_cmp l m)

is_below_true : (o : Ordering) → is_lt o ≡ true → o ≡ Less
is_below_true a1 a2 = search arith

-- the result of a comparison of each pair of neighbours
pub ascending_by_neighbours : (links : List Link) (r : Bool) → IsAllAdjacentAnswer (λ l m b. b ≡ is_below l m) links r → IsTrue r ↔ IsAscending links
ascending_by_neighbours links r answer = all_pairs_by_neighbours IsBelow below_trans is_below (λ l m. (is_below_true (key_cmp l m), λ below. ap is_lt below)) links r answer

pub ascending_sorted : (links : List Link) → IsAscending links → IsSorted key_cmp links
ascending_sorted links up k d _ lt = search (arith, below_asymm, is_lt)
