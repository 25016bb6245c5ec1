-- The live indices of a shard's links.
use Rattle.std.proofs.Common.{◌≡◌, ℕ, zero, suc, ◌+◌, ◌<◌, ◌≤◌, List, [], ◌∷◌, ◌++◌, length, get_or, ◌⊎◌, refl, sym, ◌∙◌, subst, inl, inr, arith}
use Rattle.std.proofs.lemmas.Bool.{cases_lt}
use Rattle.links.specs.declared.links.Link.{Link}
use Rattle.links.specs.Labels.{label_of, Coarsens}
use Rattle.shard_scans.specs.Live.{HaveOneLabel, IsInside, AreParallel, IsOutdone, IsAside, AreAside, AreLive}
use Rattle.shard_scans.proofs.BestSoFar.{one_read}

-- a link inside a component stays inside one under labels that coarsen
pub quiet_coarser : (labels finer : List ℕ) (l : Link) → Coarsens labels finer → IsInside finer l → IsInside labels l
quiet_coarser labels finer l coarsens quiet = search arith

-- vertices of one label have one label under labels that coarsen
pub one_label_coarser : (labels finer : List ℕ) (u v : ℕ) → Coarsens labels finer → HaveOneLabel finer u v → HaveOneLabel labels u v
one_label_coarser labels finer u v coarsens (at_u, at_v, same) = search arith

parallel_coarser : (labels finer : List ℕ) (l m : Link) → Coarsens labels finer → AreParallel finer l m → AreParallel labels l m
parallel_coarser a1 a2 a3 a4 a5 a6 = search (arith, one_label_coarser)

aside_coarser : (links : List Link) (labels finer : List ℕ) (from to : ℕ) → Coarsens labels finer → AreAside links finer from to → AreAside links labels from to
aside_coarser links labels finer from to coarsens aside q l from_start before_end read = elim (aside q l from_start before_end read) [
  | inl quiet ↦ inl (quiet_coarser labels finer l coarsens quiet)
  | inr by ↦ inr (record {
    place = by.place;
    just_before = by.just_before;
    earlier = by.earlier;
    here = by.here;
    parallel = parallel_coarser labels finer by.earlier l coarsens by.parallel;
    first = by.first;
  })
]

pub live_coarser : (links : List Link) (labels finer : List ℕ) (from to : ℕ) (places : List ℕ) → Coarsens labels finer → AreLive links finer from to places → AreLive links labels from to places
live_coarser links labels finer from to [] coarsens (le, aside) = (le, aside_coarser links labels finer from to coarsens aside)
live_coarser links labels finer from to (p ∷ places) coarsens (le, aside, rest) =
    (le, aside_coarser links labels finer from p coarsens aside, live_coarser links labels finer (p + 1) to places coarsens rest)

-- a link that is parallel to one inside a component is inside one too
quiet_parallel : (labels : List ℕ) (l m : Link) → IsInside labels l → AreParallel labels l m → IsInside labels m
quiet_parallel a1 a2 a3 a4 a5 = search arith

module _ (links : List Link) (labels : List ℕ) where
  -- the indices are in the range
  pub live_range : (from to : ℕ) (places : List ℕ) → AreLive links labels from to places → from ≤ to
  live_range from to [] (le, quiet) = le
  live_range from to (p ∷ places) (le, quiet, rest) = omega (arith, le, live_range (p + 1) to places rest)

  -- no link before the first index need be listed
  pub live_first : (from to : ℕ) (places : List ℕ) → AreLive links labels from to places → (from ≤ get_or places 0 to) × AreAside links labels from (get_or places 0 to)
  live_first from to [] live = live
  live_first from to (p ∷ places) (le, quiet, rest) = (le, quiet)

  -- nor a link between an index and the next
  live_behind : (from to : ℕ) (places : List ℕ) (k d : ℕ) → AreLive links labels from to places → k < length places
      → (get_or places k d + 1 ≤ get_or places (suc k) to) × AreAside links labels (get_or places k d + 1) (get_or places (suc k) to)
  live_behind from to [] k d live lt = absurd (omega (arith, lt))
  live_behind from to (p ∷ places) zero d (le, quiet, rest) lt = live_first (p + 1) to places rest
  live_behind from to (p ∷ places) (suc k) d (le, quiet, rest) lt = live_behind (p + 1) to places k d rest (omega (arith, lt))

  pub live_next : (from to : ℕ) (places : List ℕ) (k d : ℕ) → AreLive links labels from to places → k < length places
      → (get_or places k d + 1 ≤ get_or places (k + 1) to) × AreAside links labels (get_or places k d + 1) (get_or places (k + 1) to)
  live_next from to places k d live lt =
      let next : suc k ≡ k + 1 = omega arith in
      subst (λ j. (get_or places k d + 1 ≤ get_or places j to) × AreAside links labels (get_or places k d + 1) (get_or places j to)) next (live_behind from to places k d live lt)

  pub live_within : (from to : ℕ) (places : List ℕ) (k d : ℕ) → AreLive links labels from to places → k < length places → (from ≤ get_or places k d) × (get_or places k d < to)
  live_within from to [] k d live lt = absurd (omega (arith, lt))
  live_within from to (p ∷ places) zero d (le, quiet, rest) lt = (le, omega (arith, live_range (p + 1) to places rest))
  live_within from to (p ∷ places) (suc k) d (le, quiet, rest) lt = let (low, high) = live_within (p + 1) to places k d rest (omega (arith, lt)) in (omega (arith, low, le), high)

  -- the end of the range follows the last index
  pub live_end : (to : ℕ) (places : List ℕ) → get_or places (length places) to ≡ to
  live_end to [] = refl
  live_end to (p ∷ places) = live_end to places

  -- all links before the first live index are inside a component
  pub front_is_quiet : (to : ℕ) → AreAside links labels 0 to → (q : ℕ) (l : Link) → q < to → l ≡ get_or links q l → IsInside labels l
  front_is_quiet to aside q l before_end read = search arith

  aside_more : (from at : ℕ) → AreAside links labels from at → ((l : Link) → l ≡ get_or links at l → IsAside links labels from at l) → AreAside links labels from (at + 1)
  aside_more from at aside here q l from_start before_end read = search (arith, cases_lt)

  -- the range may be extended by a link inside a component
  pub live_goes_on : (from at : ℕ) (places : List ℕ) → AreLive links labels from at places → ((l : Link) → l ≡ get_or links at l → IsInside labels l) → AreLive links labels from (at + 1) places
  live_goes_on from at [] (le, aside) quiet = (omega (arith, le), aside_more from at aside (λ l read. inl (quiet l read)))
  live_goes_on from at (p ∷ places) (le, aside, rest) quiet = (le, aside, live_goes_on (p + 1) at places rest quiet)

  -- and by one that the link at the last live index outdoes
  pub live_outdone : (from at p : ℕ) (places : List ℕ) (k : ℕ) → AreLive links labels from at places → length places ≡ k + 1 → get_or places k 0 ≡ p
      → ((l : Link) → l ≡ get_or links at l → IsOutdone links labels (p + 1) at l) → AreLive links labels from (at + 1) places
  live_outdone from at p [] k live size last by = absurd (omega (arith, size))
  live_outdone from at p (x ∷ []) zero (le, aside, rest) size last by =
      (le, aside, (omega (arith, rest.0), aside_more (x + 1) at rest.1 (λ l read. inr (subst (λ j. IsOutdone links labels (j + 1) at l) (sym last) (by l read)))))
  live_outdone from at p (x ∷ []) (suc k) live size last by = absurd (omega (arith, size))
  live_outdone from at p (x ∷ y ∷ places) zero live size last by = absurd (omega (arith, size))
  live_outdone from at p (x ∷ y ∷ places) (suc k) (le, aside, rest) size last by = (le, aside, live_outdone (x + 1) at p (y ∷ places) k rest (omega (arith, size)) last by)

  pub live_push : (from at : ℕ) (places : List ℕ) → AreLive links labels from at places → AreLive links labels from (at + 1) (places ++ at ∷ [])
  live_push from at [] (le, quiet) = (le, quiet, (omega arith, λ q l from_start before_end read. absurd (omega (arith, from_start, before_end))))
  live_push from at (p ∷ places) (le, quiet, rest) = (le, quiet, live_push (p + 1) at places rest)

  -- If the links on both sides of one inside a component needn't be listed, all of them needn't: those that it outdoes
  -- are inside a component too.
  aside_over : (from p to : ℕ) → AreAside links labels from p → ((l : Link) → l ≡ get_or links p l → IsInside labels l) → AreAside links labels (p + 1) to → AreAside links labels from to
  aside_over from p to aside quiet behind q l from_start before_end read = search (arith, cases_lt, quiet_parallel)

  -- so a live index may be removed after its link comes to be inside a component
  pub live_without : (from p to : ℕ) (places : List ℕ) → from ≤ p → AreAside links labels from p
      → ((l : Link) → l ≡ get_or links p l → IsInside labels l) → AreLive links labels (p + 1) to places → AreLive links labels from to places
  live_without from p to [] le aside quiet (le', behind) = (omega (arith, le, le'), aside_over from p to aside quiet behind)
  live_without from p to (x ∷ places) le aside quiet (le', behind, rest) = (omega (arith, le, le'), aside_over from p x aside quiet behind, rest)

  -- a link that is at a live index, or parallel to one that is
  abbrev pub HasLive : List ℕ → Link → Type 0
  HasLive places l = (k : ℕ) × (k < length places) × (e : Link) × (e ≡ get_or links (get_or places k 0) e) × ((e ≡ l) ⊎ AreParallel labels e l)

  -- each link in the range is such, or it needn't be listed after the index before it
  pub live_or_aside : (from to : ℕ) (places : List ℕ) (q : ℕ) (l : Link) → AreLive links labels from to places → from ≤ q → q < to → l ≡ get_or links q l
      → IsAside links labels from q l ⊎ HasLive places l
  live_or_aside from to [] q l (le, aside) low high read = inl (aside q l low high read)
  live_or_aside from to (p ∷ places) q l (le, aside, rest) low high read = elim (cases_lt q p) [
    | inl before ↦ inl (aside q l low before read)
    | inr later ↦ elim (cases_lt p q) [
      | inl behind ↦ elim (live_or_aside (p + 1) to places q l rest (omega (arith, behind)) high read) [
        | inl is ↦ elim is [
          | inl quiet ↦ inl (inl quiet)
          | inr by ↦
              let at : by.place ≡ p = omega (arith, by.just_before) in
              inr (0, omega arith, by.earlier, subst (λ j. by.earlier ≡ get_or links j by.earlier) at by.here, inr by.parallel)
        ]
        | inr (k, lt, e, e_read, is) ↦ inr (suc k, omega (arith, lt), e, e_read, is)
      ]
      | inr not_behind ↦
          let at : q ≡ p = omega (arith, later, not_behind) in
          inr (0, omega arith, l, subst (λ j. l ≡ get_or links j l) at read, inl refl)
    ]
  ]

  -- a link whose endpoints have one label is inside a component
  pub quiet_alone : (i : ℕ) (l : Link) → i < length links → l ≡ get_or links i l → l.high ≤ length labels
      → label_of labels l.low ≡ label_of labels l.high → (m : Link) → m ≡ get_or links i m → IsInside labels m
  quiet_alone i l within read ends same m m_read = subst (IsInside labels) (one_read links i l m within read m_read) (record { labelled = ends; one_label = same })
