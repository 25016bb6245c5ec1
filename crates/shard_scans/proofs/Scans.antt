-- A pass over a shard's links, with a table of the best index for each label.
use Rattle.std.proofs.Common.{◌≡◌, ◌≢◌, ℕ, ◌+◌, ◌-◌, ◌<◌, ◌≤◌, ◌^◌, ℤ, w32, w64, FitsSigned, to_z, of_z, List, length, get_or}
use Rattle.std.proofs.Common.{set, replicate, true, Option, Some, None, Ordering, Less, nat_cmp, refl, sym, ap, ◌∙◌, subst, inl, inr, arith}
use Rattle.std.specs.Int.Signed.{◌<ℤ◌, lt_z}
use Rattle.std.specs.Ordering.{ordering_then}
use Rattle.std.specs.Cmp.{int_cmp_is}
use Rattle.std.proofs.lemmas.Int.{ints, to_z-of_z, by_lt_z}
use Rattle.std.proofs.lemmas.Bool.{cases_eq}
use Rattle.std.proofs.lemmas.List.{length-replicate, get_or-replicate, get_or_default, get_or-set_same, get_or-set_other, length-set}
use Rattle.links.specs.declared.links.Link.{Link}
use Rattle.links.specs.Link.{EndsUpTo, IsBelow}
use Rattle.links.specs.Labels.{label_of}
use Rattle.round_theory.specs.Labelling.{IsVertex}
use Rattle.round_theory.specs.Offers.{Leaves}
use Rattle.round_theory.proofs.Leaving.{leaves_apart, leaves_end}
use Rattle.shard_scans.proofs.BestSoFar.{one_read, best_goes_on, best_first, best_stays, best_new}
use Rattle.shard_scans.proofs.ShortKeys.{key_fits, not_above_all, keys_keep_order}
use Rattle.shard_scans.specs.declared.scanning.Best.{Best}
use Rattle.shard_scans.specs.Scanning.{short_key, no_best, IsBestPlace, NoneLeavesIn, IsBest, SaysBest, Keeps, best_of, AreBestUpTo}

-- what the test for `<` of two keys says
less_by_test : (a b : ℤ) → lt_z a b ≡ true → a <ℤ b
less_by_test a b test = omega (arith, ints, test)

-- a stored key has 32 bits
key_is : (w k : ℤ) → FitsSigned w64 w → k ≡ short_key w → to_z w32 (of_z w32 k) ≡ short_key w
key_is w k fits is = ap (λ j. to_z w32 (of_z w32 j)) is ∙ to_z-of_z w32 (short_key w) (key_fits w fits)

-- a link with a lesser key weighs less than another, and so is below it
pub lesser_key_is_below : (l m : Link) (k j : ℤ) → k ≡ short_key l.weight → j ≡ short_key m.weight → lt_z (to_z w32 (of_z w32 k)) (to_z w32 (of_z w32 j)) ≡ true → IsBelow l m
lesser_key_is_below l m k j k_is j_is test =
    let keys = less_by_test (short_key l.weight) (short_key m.weight) (subst (λ a. lt_z a (short_key m.weight) ≡ true) (key_is l.weight k l.weight_fits k_is)
    (subst (λ b. lt_z (to_z w32 (of_z w32 k)) b ≡ true) (key_is m.weight j m.weight_fits j_is) test)) in
    let lighter = by_lt_z l.weight m.weight (λ less. less) (λ ge. absurd (keys_keep_order m.weight l.weight ge keys)) in
    subst (λ (o : Ordering). ordering_then o (ordering_then (nat_cmp l.low m.low) (nat_cmp l.high m.high)) ≡ Less) (int_cmp_is l.weight m.weight Less lighter) refl

-- the key of no link isn't less than any key
pub no_key_is_lesser : (l : Link) (k : ℤ) → k ≡ short_key l.weight → ¬ (lt_z (to_z w32 (of_z w32 no_best.key)) (to_z w32 (of_z w32 k)) ≡ true)
no_key_is_lesser l k k_is test = search (arith, not_above_all, less_by_test, key_is)

-- a table of empty entries has the best indices of no links
pub best_of_none : (count : ℕ) (links : List Link) (labels : List ℕ) (from : ℕ) → AreBestUpTo count links labels from from (replicate count no_best)
best_of_none count links labels from = search (arith, length-replicate, get_or-replicate)

module _ (links : List Link) (labels : List ℕ) (from to c : ℕ) (kept : Best) where
  -- an index that is stored is the best one
  pub kept_place : Keeps links labels from to c kept → kept.place ≢ no_best.place → IsBestPlace links labels from to c kept.place
  kept_place keeps some = go keeps.best keeps.says keeps.is
    where
      go : (best : Option ℕ) → SaysBest links kept best → IsBest links labels from to c best → IsBestPlace links labels from to c kept.place
      go None says is = absurd (some (ap (λ (b : Best). b.place) says))
      go (Some place) says is = subst (IsBestPlace links labels from to c) (sym says.0) is

  pub kept_none : Keeps links labels from to c kept → length links ≤ 2 ^ 24 → kept.place ≡ no_best.place → NoneLeavesIn links labels from to c
  kept_none keeps few none = search arith

module _ (links : List Link) (labels : List ℕ) (c from at to : ℕ) (le : from ≤ at) (next : Best)
    (next_says : SaysBest links next (Some next.place)) (next_is : IsBestPlace links labels at to c next.place) (kept : Best)
    (keeps : Keeps links labels from at c kept) where
  -- what is known of the link that is stored
  abbrev OfKept : (Link → Type 0) → Type 0
  OfKept P = (l : Link) → kept.place < length links → l ≡ get_or links kept.place l → kept.key ≡ short_key l.weight → P l

  -- a link is stored, and the next one isn't below it
  pub keeps_old : kept ≢ no_best → OfKept (λ l. ¬ (IsBelow next_is.link l)) → Keeps links labels from to c kept
  keeps_old some not_below = go keeps.best keeps.says keeps.is
    where
      go : (best : Option ℕ) → SaysBest links kept best → IsBest links labels from at c best → Keeps links labels from to c kept
      go None says is = absurd (some says)
      go (Some p) says is =
          let read : is.link ≡ get_or links kept.place is.link = subst (λ k. is.link ≡ get_or links k is.link) (sym says.0) is.here in
          let within : kept.place < length links = omega (arith, says.0, says.1) in
          record { best = Some p; says = says; is = best_stays links labels c from at to next.place le next_is p is (not_below is.link within read (says.2 is.link is.here)) }

  -- no link is stored, or the next one is below it
  pub keeps_new : OfKept (λ l. IsBelow next_is.link l) → Keeps links labels from to c next
  keeps_new below = record { best = Some next.place; says = next_says; is = go keeps.best keeps.says keeps.is }
    where
      go : (best : Option ℕ) → SaysBest links kept best → IsBest links labels from at c best → IsBestPlace links labels from to c next.place
      go None says is = best_first links labels c from at to next.place le next_is is
      go (Some p) says is =
          let read : is.link ≡ get_or links kept.place is.link = subst (λ k. is.link ≡ get_or links k is.link) (sym says.0) is.here in
          let within : kept.place < length links = omega (arith, says.0, says.1) in
          best_new links labels c from at to next.place le next_is p is (below is.link within read (says.2 is.link is.here))

-- links that leave no label change nothing
pub keeps_out : (links : List Link) (labels : List ℕ) (from at to c : ℕ) (kept : Best) → at ≤ to
    → NoneLeavesIn links labels at to c → Keeps links labels from at c kept → Keeps links labels from to c kept
keeps_out links labels from at to c kept le none keeps = record { best = keeps.best; says = keeps.says; is = best_goes_on links labels c from at to keeps.best le none keeps.is }

-- links whose endpoints have one label leave none
pub bests_stay : (count : ℕ) (links : List Link) (labels : List ℕ) (from at to : ℕ) (table : List Best) → at ≤ to
    → ((q : ℕ) (l : Link) → at ≤ q → q < to → q < length links → l ≡ get_or links q l → label_of labels l.low ≡ label_of labels l.high)
    → AreBestUpTo count links labels from at table → AreBestUpTo count links labels from to table
bests_stay count links labels from at to table le same are = search (arith, keeps_out, leaves_apart)

module _ (count : ℕ) (links : List Link) (labels : List ℕ) (from i : ℕ) (within : i < length links) where
  -- another link leaves the labels of its two endpoints, and no others
  pub bests_change : (table : List Best) (l : Link) (low high : ℕ) (at_low at_high : Best) → l ≡ get_or links i l
      → low ≡ label_of labels l.low → high ≡ label_of labels l.high → low ≢ high → IsVertex count low → IsVertex count high
      → Keeps links labels from (i + 1) low at_low → Keeps links labels from (i + 1) high at_high
      → AreBestUpTo count links labels from i table → AreBestUpTo count links labels from (i + 1) (set (set table (low - 1) at_low) (high - 1) at_high)
  bests_change table l low high at_low at_high read low_is high_is apart low_vertex high_vertex low_best high_best are = record {
    each_vertex = length-set (set table (low - 1) at_low) (high - 1) at_high ∙ length-set table (low - 1) at_low ∙ are.each_vertex;
    best = best;
  }
    where
      first : List Best
      first = set table (low - 1) at_low

      others : (c : ℕ) → c ≢ low → c ≢ high → NoneLeavesIn links labels i (i + 1) c
      others c not_low not_high q m from_start before_end in_list m_read leaves =
          let at : q ≡ i = omega (arith, from_start, before_end) in
          let same = one_read links i l m within read (subst (λ k. m ≡ get_or links k m) at m_read) in
          elim (leaves_end labels l c (subst (λ k. Leaves labels k c) (sym same) leaves)) [ inl is ↦ not_low (is ∙ sym low_is) | inr is ↦ not_high (is ∙ sym high_is) ]

      best : (c : ℕ) → IsVertex count c → Keeps links labels from (i + 1) c (best_of (set first (high - 1) at_high) c)
      best c vertex = elim (cases_eq c high) [
        | inl is ↦ subst (Keeps links labels from (i + 1) c)
            (sym (ap (λ k. get_or (set first (high - 1) at_high) (k - 1) no_best) is ∙ get_or-set_same first
            (high - 1) at_high no_best (omega (arith, length-set table (low - 1) at_low, are.each_vertex, high_vertex))))
            (subst (λ k. Keeps links labels from (i + 1) k at_high) (sym is) high_best)
        | inr not_high ↦ elim (cases_eq c low) [
          | inl is ↦ subst (Keeps links labels from (i + 1) c)
              (sym (get_or-set_other first (high - 1) (c - 1) at_high no_best (λ same. not_high (omega (arith, same, vertex, high_vertex)))
              ∙ ap (λ k. get_or first (k - 1) no_best) is ∙ get_or-set_same table (low - 1) at_low no_best (omega (arith, are.each_vertex, low_vertex))))
              (subst (λ k. Keeps links labels from (i + 1) k at_low) (sym is) low_best)
          | inr not_low ↦ subst (Keeps links labels from (i + 1) c)
              (sym (get_or-set_other first (high - 1) (c - 1) at_high no_best (λ same. not_high (omega (arith, same, vertex, high_vertex)))
              ∙ get_or-set_other table (low - 1) (c - 1) at_low no_best (λ same. not_low (omega (arith, same, vertex, low_vertex)))))
              (keeps_out links labels from i (i + 1) c (best_of table c) (omega arith) (others c not_low not_high) (are.best c vertex))
        ]
      ]

-- an endpoint of the link at an index of the list
pub end_at : (n : ℕ) (links : List Link) (i : ℕ) (l : Link) → EndsUpTo n links → i < length links → l ≡ get_or links i l → l.high ≤ n
end_at n links i l ends within read = subst (λ (k : Link). k.high ≤ n) (sym read) (ends i l within)

pub kept_at : (count : ℕ) (links : List Link) (labels : List ℕ) (from to : ℕ) (table : List Best) (c k : ℕ) (d : Best)
    → AreBestUpTo count links labels from to table → IsVertex count c → k ≡ c - 1 → Keeps links labels from to c (get_or table k d)
kept_at count links labels from to table c k d are vertex at = search (arith, get_or_default)
