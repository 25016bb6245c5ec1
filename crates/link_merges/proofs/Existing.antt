-- Links that close no cycle have merges: one after the other, each of the existing clusters of a link's endpoints.
use Rattle.std.proofs.Common.{◌≡◌, ℕ, zero, suc, ◌+◌, ◌<◌, ◌≤◌, min, max, List, [], ◌∷◌, ◌++◌, length, Some, refl, sym, ap, ◌∙◌, subst, arith}
use Rattle.std.specs.Prelude.{slice_get}
use Rattle.std.proofs.lemmas.List.{length_push}
use Rattle.std.proofs.lemmas.Option.{same_Some, none-some, slice_get-get_or}
use Rattle.links.specs.declared.links.Link.{Link}
use Rattle.links.specs.Link.{EndsUpTo}
use Rattle.link_key.specs.Components.{IsAcyclic}
use Rattle.link_merges.specs.declared.merges.Merge.{Merge}
use Rattle.link_merges.specs.Merges.{IsInCluster, HasSize, IsMerge, LinksHaveMerges}
use Rattle.link_merges.specs.Halves.{HasEnds, row_at, points_in}
use Rattle.link_merges.proofs.Counting.{size_of}
use Rattle.link_merges.proofs.Cutting.{cluster_for}
use Rattle.link_merges.proofs.Merging.{link_there, ends_in, ends_apart}
use Rattle.link_merges.proofs.Rows.{one_more}
use Rattle.link_merges.proofs.Unions.{merge_of_ends}

record Built (n : ℕ) (links : List Link) (k : ℕ) : Type 0 where
  merges : List Merge
  rows : length merges ≡ k
  each : (i : ℕ) (l : Link) (merge : Merge) → slice_get links i ≡ Some l → slice_get merges i ≡ Some merge → IsMerge n links i l merge

module _ (n : ℕ) (links : List Link) (ends : EndsUpTo n links) (acyclic : IsAcyclic links) (k : ℕ) (lt : k < length links) (l : Link)
    (link_at : slice_get links k ≡ Some l) (before : Built n links k) where
  in_n : (l.low ≤ n) × (1 ≤ l.high) × (l.high ≤ n)
  in_n = ends_in n links k l ends link_at

  abbrev row : Merge
  row = record {
    first = (cluster_for n links l.low l.from_one in_n.0 k).0;
    second = (cluster_for n links l.high in_n.1 in_n.2 k).0;
    size = 0;
  }

  has : HasEnds n links k l row
  has = search (arith, cluster_for)

  size : (c : ℕ) → c < n + k → HasSize (IsInCluster n links c) (points_in n before.merges c)
  size c there = size_of n links before.merges k c (omega (arith, lt))
      (λ j m below at. before.each j m (row_at before.merges j) at (slice_get-get_or before.merges j (record { first = 0; second = 0; size = 0 })
      (let len = before.rows in omega (arith, len, below)))) there

  abbrev merge : Merge
  merge = record {
    first = min row.first row.second;
    second = max row.first row.second;
    size = points_in n before.merges row.first + points_in n before.merges row.second;
  }

  merge_is : IsMerge n links k l merge
  merge_is = merge_of_ends n links k l link_at (ends_apart links k l link_at acyclic) row has (points_in n before.merges row.first) (points_in n before.merges row.second)
      (size row.first has.low.there) (size row.second has.high.there) merge.first merge.second merge.size refl refl refl

  one_further : Built n links (k + 1)
  one_further = record {
    merges = before.merges ++ merge ∷ [];
    rows = length_push before.merges merge ∙ ap (λ m. m + 1) before.rows;
    each = one_more n links before.merges merge k before.rows before.each
        (λ m at. subst (λ (x : Link). IsMerge n links k x merge) (same_Some l m (sym link_at ∙ at)) merge_is);
  }

built : (n : ℕ) (links : List Link) → EndsUpTo n links → IsAcyclic links → (k : ℕ) → k ≤ length links → Built n links k
built n links ends acyclic zero most = record { merges = []; rows = refl; each = λ i l merge link_at at. absurd (none-some merge at) }
built n links ends acyclic (suc k) most =
    let lt : k < length links = omega (arith, most) in
    let found = link_there links k lt in
    let one : k + 1 ≡ suc k = omega arith in
    subst (Built n links) one (one_further n links ends acyclic k lt found.0 found.1 (built n links ends acyclic k (omega (arith, most))))

pub links_have_merges : LinksHaveMerges
links_have_merges n links ends acyclic =
    let all = built n links ends acyclic (length links) (omega arith) in
    (all.merges, record { as_many = all.rows; each = all.each })
