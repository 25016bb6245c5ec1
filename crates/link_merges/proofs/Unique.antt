-- Links that close no cycle have only one list of merges.
--
-- No two clusters have the same vertices. A point has one vertex. A cluster that a link makes has both endpoints of
-- that link, and no earlier cluster has both. So each of the clusters that a link joins has only one number.
use Rattle.std.proofs.Common.{◌≡◌, ℕ, ◌+◌, ◌<◌, ◌≤◌, ◌⊎◌, ◌↔◌, eqb, List, length, get_or, take, Contains, Some, refl, sym, ap, ap₂, ◌∙◌, subst, inl, inr, arith}
use Rattle.std.specs.Prelude.{AllPairs, slice_get}
use Rattle.std.specs.Cmp.{IsEquivalence}
use Rattle.std.proofs.lemmas.Bool.{cases_eq, cases_lt, eqb-true, eq-eqb, ne_eqb}
use Rattle.std.proofs.lemmas.Bool.Decides.{eqb_tells}
use Rattle.std.proofs.lemmas.List.{length-take, get_or-take, ext_get_or}
use Rattle.std.proofs.lemmas.Map.Keys.{IsDistinct-from_apart}
use Rattle.std.proofs.lemmas.Map.Made.{length-le_from_is_member}
use Rattle.std.proofs.lemmas.Map.Views.{Contains-from_any, list_any-from_Contains}
use Rattle.std.proofs.lemmas.Option.{slice_get-get_or}
use Rattle.links.specs.declared.links.Link.{Link}
use Rattle.links.proofs.Walks.{joins_refl, joins_link, joins_symm, joins_trans, joins_more}
use Rattle.link_merges.specs.declared.merges.Merge.{Merge}
use Rattle.link_merges.specs.Merges.{FirstJoin, IsInCluster, IsClusterOf, HasSize, IsMerge, OneListOfMerges}
use Rattle.link_merges.specs.Halves.{CloseNone}
use Rattle.link_merges.proofs.Merging.{link_there, first_links, new_cluster, none_closes}
use Rattle.link_merges.proofs.Sizes.{Differ}

-- `==` distinguishes numbers
numbers_apart : IsEquivalence eqb
numbers_apart = search (arith, eq-eqb, eqb_tells, ne_eqb, eqb, eqb-true)

-- if distinct numbers are all in another list, that list is at least as long
no_more : (xs ys : List ℕ) → AllPairs Differ xs → ((v : ℕ) → Contains xs v → Contains ys v) → length xs ≤ length ys
no_more xs ys distinct within = length-le_from_is_member numbers_apart xs ys
    (IsDistinct-from_apart eqb xs (λ i j d lt in_list. ne_eqb _ _ (distinct i j d lt in_list)))
    (λ q found. list_any-from_Contains numbers_apart q ys (within q (Contains-from_any (λ x y same. eqb-true x y same) q xs found)))

pub one_size : (P : ℕ → Type 0) (a b : ℕ) → HasSize P a → HasSize P b → a ≡ b
one_size P a b of_a of_b =
    let to = no_more of_a.numbers of_b.numbers of_a.distinct (λ v v_in. (of_b.exact v).1 ((of_a.exact v).0 v_in)) in
    let back = no_more of_b.numbers of_a.numbers of_b.distinct (λ v v_in. (of_a.exact v).1 ((of_b.exact v).0 v_in)) in
    let is_a = of_a.counted in
    let is_b = of_b.counted in
    omega (arith, to, back, is_a, is_b)

abbrev no_merge : Merge
no_merge = record { first = 0; second = 0; size = 0 }

-- more links join whatever fewer links join
join_longer : (links : List Link) (j k u v : ℕ) → j ≤ k → FirstJoin links j u v → FirstJoin links k u v
join_longer links j k u v le = joins_more (Contains (take j links)) (Contains (take k links)) within u v
  where
    within : (m : Link) → Contains (take j links) m → Contains (take k links) m
    within m (i, lt, is) =
        let len = length-take j links in
        let longer = length-take k links in
        let at_j : i < j = omega (arith, len, lt) in
        let at_k : i < k = omega (arith, at_j, le) in
        (i, omega (arith, len, lt, longer, le), get_or-take k links i m at_k ∙ sym (get_or-take j links i m at_j) ∙ is)

module _ (n : ℕ) (links : List Link) (k : ℕ) (none : CloseNone links k) where
  -- both endpoints of a link are in the cluster that it makes
  low_in : (i : ℕ) (l : Link) → slice_get links i ≡ Some l → IsInCluster n links (n + i) l.low
  low_in i l at = (new_cluster n links i l at l.low).1 (joins_refl (Contains (take (i + 1) links)) l.low)

  high_in : (i : ℕ) (l : Link) → slice_get links i ≡ Some l → IsInCluster n links (n + i) l.high
  high_in i l at = (new_cluster n links i l at l.high).1 (joins_link (Contains (take (i + 1) links)) l ((first_links links i l at l).1 (inr refl)))

  -- a point has one vertex
  only : (c v : ℕ) → c < n → IsInCluster n links c v → v ≡ c + 1
  only a1 a2 a3 a4 = search arith

  -- a point doesn't have the vertices of a cluster that a link makes
  no_point : (c i : ℕ) (l : Link) → slice_get links i ≡ Some l → c < n → ((v : ℕ) → IsInCluster n links (n + i) v → IsInCluster n links c v) → ⊥
  no_point c i l at lt within =
      let low = only c l.low lt (within l.low (low_in i l at)) in
      let high = only c l.high lt (within l.high (high_in i l at)) in
      let up = l.ascending in
      omega (arith, low, high, up)

  -- an earlier cluster doesn't have both endpoints of a later link
  not_later : (i j : ℕ) (l m : Link) → slice_get links i ≡ Some l → slice_get links j ≡ Some m → i < j → j < k → ((v : ℕ) → IsInCluster n links (n + j) v → IsInCluster n links (n + i) v) → ⊥
  not_later i j l m at_i at_j lt taken within =
      let S = Contains (take (i + 1) links) in
      let low = (new_cluster n links i l at_i m.low).0 (within m.low (low_in j m at_j)) in
      let high = (new_cluster n links i l at_i m.high).0 (within m.high (high_in j m at_j)) in
      none j m taken at_j (join_longer links (i + 1) j m.low m.high (omega (arith, lt)) (joins_trans S m.low l.low m.high (joins_symm S l.low m.low low) high))

  one_number : (c d u : ℕ) → c < n + k → d < n + k → IsInCluster n links c u → IsInCluster n links d u → ((v : ℕ) → IsInCluster n links c v ↔ IsInCluster n links d v) → c ≡ d
  one_number c d u c_there d_there (inl in_c) (inl in_d) same = let a = in_c.1 in let b = in_d.1 in omega (arith, a, b)
  one_number c d u c_there d_there (inl in_c) (inr (i, l, e, at, joined)) same =
      absurd (no_point c i l at in_c.0 (λ v v_in. (same v).1 (subst (λ x. IsInCluster n links x v) (sym e) v_in)))
  one_number c d u c_there d_there (inr (i, l, e, at, joined)) (inl in_d) same =
      absurd (no_point d i l at in_d.0 (λ v v_in. (same v).0 (subst (λ x. IsInCluster n links x v) (sym e) v_in)))
  one_number c d u c_there d_there (inr (i, l, e, at, joined)) (inr (j, m, e', at', joined')) same = elim (cases_eq i j) [
    | inl is ↦ omega (arith, e, e', is)
    | inr other ↦ elim (cases_lt i j) [
      | inl lt ↦ absurd (not_later i j l m at at' lt (omega (arith, e', d_there)) (λ v v_in. subst (λ x. IsInCluster n links x v) e ((same v).1 (subst (λ x. IsInCluster n links x v) (sym e') v_in))))
      | inr ge ↦ absurd (not_later j i m l at' at (omega (arith, ge, other)) (omega (arith, e, c_there))
          (λ v v_in. subst (λ x. IsInCluster n links x v) e' ((same v).0 (subst (λ x. IsInCluster n links x v) (sym e) v_in))))
    ]
  ]

  pub one_cluster : (u c d : ℕ) → IsClusterOf n links k u c → IsClusterOf n links k u d → c ≡ d
  one_cluster u c d is is' =
      let own = joins_refl (Contains (take k links)) u in
      one_number c d u is.there is'.there ((is.same u).1 own) ((is'.same u).1 own)
      (λ v. (λ v_in. (is'.same v).1 ((is.same v).0 v_in), λ v_in. (is.same v).1 ((is'.same v).0 v_in)))

  -- the numbers of the two clusters, whichever comes first
  in_order : (first second first' second' low high : ℕ) → first < second → first' < second'
      → ((low ≡ first) × (high ≡ second)) ⊎ ((high ≡ first) × (low ≡ second)) → ((low ≡ first') × (high ≡ second')) ⊎ ((high ≡ first') × (low ≡ second'))
      → (first ≡ first') × (second ≡ second')
  in_order a1 a2 a3 a4 a5 a6 a7 a8 a9 a10 = search arith

  -- with the clusters of the first merge for both endpoints
  ends_of : (l : Link) (low high first second : ℕ) → IsClusterOf n links k l.low low → IsClusterOf n links k l.high high
      → (IsClusterOf n links k l.low first × IsClusterOf n links k l.high second) ⊎ (IsClusterOf n links k l.high first × IsClusterOf n links k l.low second)
      → ((low ≡ first) × (high ≡ second)) ⊎ ((high ≡ first) × (low ≡ second))
  ends_of l low high first second of_low of_high (inl are) = inl (one_cluster l.low low first of_low are.0, one_cluster l.high high second of_high are.1)
  ends_of l low high first second of_low of_high (inr are) = inr (one_cluster l.high high first of_high are.0, one_cluster l.low low second of_low are.1)

  one_merge : (l : Link) (merge other : Merge) → IsMerge n links k l merge → IsMerge n links k l other → merge ≡ other
  one_merge l merge other is is' =
      let numbers : (merge.first ≡ other.first) × (merge.second ≡ other.second) = elim is.ends [
        | inl are ↦ in_order merge.first merge.second other.first other.second merge.first merge.second is.ascending is'.ascending (inl (refl, refl))
            (ends_of l merge.first merge.second other.first other.second are.0 are.1 is'.ends)
        | inr are ↦ in_order merge.first merge.second other.first other.second merge.second merge.first is.ascending is'.ascending (inr (refl, refl))
            (ends_of l merge.second merge.first other.first other.second are.1 are.0 is'.ends)
      ] in
      ap₂ (λ (first second : ℕ). record { first = first; second = second; size = merge.size }) numbers.0 numbers.1
      ∙ ap (λ (size : ℕ). record { first = other.first; second = other.second; size = size }) (one_size (IsInCluster n links (n + k)) merge.size other.size is.size is'.size)

pub one_list : OneListOfMerges
one_list n links merges others acyclic are are' =
    ext_get_or no_merge merges others (are.as_many ∙ sym are'.as_many) same
  where
    same : (k : ℕ) → k < length merges → get_or merges k no_merge ≡ get_or others k no_merge
    same k lt =
        let len = are.as_many in
        let len' = are'.as_many in
        let in_links : k < length links = omega (arith, lt, len) in
        let in_others : k < length others = omega (arith, in_links, len') in
        let found = link_there links k in_links in
        one_merge n links k (none_closes links k acyclic) found.0 (get_or merges k no_merge) (get_or others k no_merge)
        (are.each k found.0 (get_or merges k no_merge) found.1 (slice_get-get_or merges k no_merge lt))
        (are'.each k found.0 (get_or others k no_merge) found.1 (slice_get-get_or others k no_merge in_others))
