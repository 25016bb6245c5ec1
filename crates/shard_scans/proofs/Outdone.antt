-- Links that an earlier one between the same two labels outdoes: the best indices so far stay the best.
use Rattle.std.proofs.Common.{◌≡◌, ℕ, ◌<◌, ◌≤◌, List, get_or, Option, Some, None, sym, ◌∙◌, inl, inr, arith}
use Rattle.std.proofs.lemmas.Bool.{cases_lt}
use Rattle.links.specs.declared.links.Link.{Link}
use Rattle.round_theory.specs.Offers.{Leaves}
use Rattle.round_theory.proofs.Leaving.{leaves_apart}
use Rattle.shard_scans.specs.declared.scanning.Best.{Best}
use Rattle.shard_scans.specs.Scanning.{ComesFirst, IsBest, AreBestUpTo}
use Rattle.shard_scans.specs.Live.{AreParallel, AreAside}
use Rattle.shard_scans.proofs.BestSoFar.{first_then_first, best_longer}

parallel_leaves : (labels : List ℕ) (l m : Link) (c : ℕ) → AreParallel labels l m → Leaves labels m c → Leaves labels l c
parallel_leaves a1 a2 a3 a4 a5 a6 = search arith

module _ (links : List Link) (labels : List ℕ) (from at to : ℕ) (seen : from < at) (le : at ≤ to) (aside : AreAside links labels at to) where
  -- if a link that needn't be listed leaves a label, an earlier one that comes first leaves it too
  abbrev HasEarlier : ℕ → ℕ → Link → Type 0
  HasEarlier c q m = (p : ℕ) × (e : Link) × (from ≤ p) × (p < at) × (e ≡ get_or links p e) × Leaves labels e c × ComesFirst e p m q

  has_earlier : (c q : ℕ) (m : Link) → at ≤ q → q < to → m ≡ get_or links q m → Leaves labels m c → HasEarlier c q m
  has_earlier c q m later before_end read leaves = elim (aside q m later before_end read) [
    | inl quiet ↦ absurd (leaves_apart labels m c leaves quiet.one_label)
    | inr by ↦ (by.place, by.earlier, omega (arith, by.just_before, seen), omega (arith, by.just_before), by.here, parallel_leaves labels by.earlier m c by.parallel leaves, by.first)
  ]

  best_over : (c : ℕ) (best : Option ℕ) → IsBest links labels from at c best → IsBest links labels from to c best
  best_over c None is = λ q m from_start before_end in_list read leaves. elim (cases_lt q at) [
    | inl lt ↦ is q m from_start lt in_list read leaves
    | inr later ↦
        let (p, e, low, high, e_read, e_leaves, first) = has_earlier c q m later before_end read leaves in
        is p e low high (omega (arith, high, later, in_list)) e_read e_leaves
  ]
  best_over c (Some p) is = best_longer links labels c from at to p le is (λ q m later before_end in_list read leaves.
      let (i, e, low, high, e_read, e_leaves, first) = has_earlier c q m later before_end read leaves in
      first_then_first is.link e m p i q (is.first i e low high (omega (arith, high, later, in_list)) e_read e_leaves) first)

  -- so a table that has the earlier one stays as it is
  pub bests_over : (count : ℕ) (table : List Best) → AreBestUpTo count links labels from at table → AreBestUpTo count links labels from to table
  bests_over count table are = search (arith, best_over)
