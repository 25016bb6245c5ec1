-- The cluster that a link makes is the union of the clusters of its endpoints.
use Rattle.std.proofs.Common.{◌≡◌, ◌≢◌, ℕ, ◌+◌, ◌⊎◌, ◌↔◌, min, max, List, take, Contains, Some, sym, subst, inl, inr, ⊎_elim, arith}
use Rattle.std.specs.Prelude.{slice_get}
use Rattle.std.proofs.lemmas.Bool.{cases_lt}
use Rattle.std.proofs.lemmas.Option.{slice_get_within}
use Rattle.links.specs.declared.links.Link.{Link}
use Rattle.links.specs.LinkSet.{LinkSet}
use Rattle.links.proofs.Walks.{JoinsThrough, joins_refl, joins_symm, joins_trans}
use Rattle.link_merges.specs.declared.merges.Merge.{Merge}
use Rattle.link_merges.specs.Merges.{FirstJoin, IsInCluster, IsClusterOf, HasSize, IsMerge, IsUnion, MergesUnite}
use Rattle.link_merges.specs.Halves.{HasEnds}
use Rattle.link_merges.proofs.Merging.{link_there, new_cluster, ends_apart, longer, low_to_high, through}
use Rattle.link_merges.proofs.Sizes.{size_both}
use Rattle.link_merges.proofs.Unique.{one_size}

module _ (n : ℕ) (links : List Link) (i : ℕ) (l : Link) (link_at : slice_get links i ≡ Some l) (two : ¬ (FirstJoin links i l.low l.high)) where
  abbrev S : LinkSet
  S = Contains (take i links)

  -- before the link, no vertex is joined to both endpoints
  not_both : (v : ℕ) → FirstJoin links i l.low v → ¬ (FirstJoin links i l.high v)
  not_both v of_low of_high = two (joins_trans S l.low v l.high of_low (joins_symm S l.high v of_high))

  by_ends : (v : ℕ) → JoinsThrough S l l.low v → FirstJoin links i l.low v ⊎ FirstJoin links i l.high v
  by_ends a1 a2 = search arith

  -- the new cluster has the vertices that were joined to either endpoint
  of_ends : (v : ℕ) → IsInCluster n links (n + i) v ↔ (FirstJoin links i l.low v ⊎ FirstJoin links i l.high v)
  of_ends v = (
    λ v_in. by_ends v (through n links i l link_at l.low v ((new_cluster n links i l link_at v).0 v_in)),
    λ is. (new_cluster n links i l link_at v).1
        (⊎_elim (longer n links i l link_at l.low v) (λ joined. joins_trans (Contains (take (i + 1) links)) l.low l.high v (low_to_high n links i l link_at)
        (longer n links i l link_at l.high v joined)) is),
  )

  -- with cluster p of one endpoint and cluster q of the other
  module _ (merge : Merge) (size : HasSize (IsInCluster n links (n + i)) merge.size)
      (apart : (v : ℕ) → IsInCluster n links merge.first v → ¬ (IsInCluster n links merge.second v))
      (both : (v : ℕ) → IsInCluster n links (n + i) v ↔ (IsInCluster n links merge.first v ⊎ IsInCluster n links merge.second v)) where
    union : IsUnion n links i merge
    union = search (arith, one_size, size_both)

  united : (merge : Merge) → IsMerge n links i l merge → IsUnion n links i merge
  united merge is = elim is.ends [
    | inl (of_low, of_high) ↦ union merge is.size
        (λ v in_first in_second. not_both v ((of_low.same v).0 in_first) ((of_high.same v).0 in_second))
        (λ v. (
          λ v_in. ⊎_elim (λ joined. inl ((of_low.same v).1 joined)) (λ joined. inr ((of_high.same v).1 joined)) ((of_ends v).0 v_in),
          λ either. (of_ends v).1 (⊎_elim (λ v_in. inl ((of_low.same v).0 v_in)) (λ v_in. inr ((of_high.same v).0 v_in)) either),
        ))
    | inr (of_high, of_low) ↦ union merge is.size
        (λ v in_first in_second. not_both v ((of_low.same v).0 in_second) ((of_high.same v).0 in_first))
        (λ v. (
          λ v_in. ⊎_elim (λ joined. inr ((of_low.same v).1 joined)) (λ joined. inl ((of_high.same v).1 joined)) ((of_ends v).0 v_in),
          λ either. (of_ends v).1 (⊎_elim (λ v_in. inr ((of_high.same v).0 v_in)) (λ v_in. inl ((of_low.same v).0 v_in)) either),
        ))
  ]

  -- the merge of the clusters of both endpoints, whichever comes first
  pub merge_of_ends : (row : Merge) → HasEnds n links i l row → (a b : ℕ) → HasSize (IsInCluster n links row.first) a → HasSize (IsInCluster n links row.second) b
      → (first second size : ℕ) → first ≡ min row.first row.second → second ≡ max row.first row.second → size ≡ a + b
      → IsMerge n links i l (record { first = first; second = second; size = size })
  merge_of_ends row has a b of_a of_b first second size first_is second_is size_is = record {
    ascending = omega (arith, first_is, second_is, differ);
    ends = elim (cases_lt row.first row.second) [
      | inl lt ↦
          let is_a : row.first ≡ first = omega (arith, first_is, lt) in
          let is_b : row.second ≡ second = omega (arith, second_is, lt) in
          inl (subst (IsClusterOf n links i l.low) is_a has.low, subst (IsClusterOf n links i l.high) is_b has.high)
      | inr ge ↦
          let is_b : row.second ≡ first = omega (arith, first_is, ge) in
          let is_a : row.first ≡ second = omega (arith, second_is, ge) in
          inr (subst (IsClusterOf n links i l.high) is_b has.high, subst (IsClusterOf n links i l.low) is_a has.low)
    ];
    size = subst (HasSize (IsInCluster n links (n + i))) (sym size_is)
        (size_both (IsInCluster n links row.first) (IsInCluster n links row.second) (IsInCluster n links (n + i)) a b of_a of_b
        (λ v in_first in_second. not_both v ((has.low.same v).0 in_first) ((has.high.same v).0 in_second))
        (λ v. (
          λ v_in. ⊎_elim (λ joined. inl ((has.low.same v).1 joined)) (λ joined. inr ((has.high.same v).1 joined)) ((of_ends v).0 v_in),
          λ either. (of_ends v).1 (⊎_elim (λ v_in. inl ((has.low.same v).0 v_in)) (λ v_in. inr ((has.high.same v).0 v_in)) either),
        )));
  }
    where
      differ : row.first ≢ row.second
      differ same = two ((has.low.same l.high).0 (subst (λ c. IsInCluster n links c l.high) (sym same) ((has.high.same l.high).1 (joins_refl S l.high))))

pub merges_unite : MergesUnite
merges_unite n links merges acyclic are i merge at =
    let lt = slice_get_within merges i merge at in
    let as_many = are.as_many in
    let found = link_there links i (omega (arith, lt, as_many)) in
    united n links i found.0 found.1 (ends_apart links i found.0 found.1 acyclic) merge (are.each i found.0 merge found.1 at)
