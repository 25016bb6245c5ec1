-- How many points clusters have.
use Rattle.std.proofs.Common.{◌≡◌, ◌≢◌, ℕ, ◌+◌, ◌-◌, ◌<◌, ◌≤◌, min, max, if◌then◌else◌, List, [], ◌∷◌, length, set, take, Contains, Some, refl, sym, ap, ◌∙◌, subst, inl, inr, arith}
use Rattle.std.specs.Prelude.{slice_get}
use Rattle.std.proofs.lemmas.Bool.{cases_eq, cases_lt, lt-ltb, le-ltb}
use Rattle.std.proofs.lemmas.List.{length-take, get_or-take, length-set, get_or-set_same, get_or-set_other}
use Rattle.std.proofs.lemmas.Option.{same_Some, get_or_from_slice_get, slice_get_within}
use Rattle.links.specs.declared.links.Link.{Link}
use Rattle.links.specs.Link.{EndsUpTo}
use Rattle.links.proofs.Members.{contains_cases, contains_head, contains_none}
use Rattle.links.proofs.Walks.{joins_equal}
use Rattle.link_merges.specs.declared.merges.Merge.{Merge}
use Rattle.link_merges.specs.Merges.{FirstJoin, IsInCluster, HasSize, IsMerge, AreMerges}
use Rattle.link_merges.specs.Halves.{row_at, points_in, merge_of, HasEnds, AreMergesUpTo}
use Rattle.link_merges.proofs.Merging.{link_there, ends_in, new_cluster}
use Rattle.link_merges.proofs.Sizes.{size_few, size_same}
use Rattle.link_merges.proofs.Unions.{merge_of_ends}

abbrev no_row : Merge
no_row = record { first = 0; second = 0; size = 0 }

one : (r : ℕ) → HasSize (λ v. v ≡ r) 1
one r = record {
  numbers = r ∷ [];
  distinct = λ i j d lt in_list. absurd (omega (arith, lt, in_list));
  exact = λ v. (
    λ v_in. elim (contains_cases r v [] v_in) [
      | inl same ↦ same
      | inr none ↦ absurd (contains_none v none)
    ],
    λ is. subst (Contains (r ∷ [])) (sym is) (contains_head r []),
  );
  counted = refl;
}

size_point : (n : ℕ) (links : List Link) (c : ℕ) → c < n → HasSize (IsInCluster n links c) 1
size_point n links c lt = size_same (λ v. v ≡ c + 1) (IsInCluster n links c) 1 (one (c + 1)) (λ v. (λ is. inl (lt, is), of_point v))
  where
    of_point : (v : ℕ) → IsInCluster n links c v → v ≡ c + 1
    of_point v (inl is) = is.1
    of_point v (inr (i, l, e, at, joined)) = absurd (omega (arith, e, lt))

-- a cluster has as many points as the row that made it says
pub size_of : (n : ℕ) (links : List Link) (rows : List Merge) (k c : ℕ) → k ≤ length links → ((j : ℕ) (l : Link) → j < k → slice_get links j ≡ Some l → IsMerge n links j l (row_at rows j))
    → c < n + k → HasSize (IsInCluster n links c) (points_in n rows c)
size_of n links rows k c most each lt = elim (cases_lt c n) [
  | inl point ↦ subst (HasSize (IsInCluster n links c)) (ap (λ b. if b then 1 else (row_at rows (c - n)).size) (sym (lt-ltb c n point))) (size_point n links c point)
  | inr made ↦
      let below : c - n < k = omega (arith, made, lt) in
      let found = link_there links (c - n) (omega (arith, below, most)) in
      let same : n + (c - n) ≡ c = omega (arith, made) in
      subst (HasSize (IsInCluster n links c)) (ap (λ b. if b then 1 else (row_at rows (c - n)).size) (sym (le-ltb c n made)))
      (subst (λ d. HasSize (IsInCluster n links d) (row_at rows (c - n)).size) same (each (c - n) found.0 below found.1).size)
]

-- whatever the links join with a vertex is a vertex
within : (n : ℕ) (links : List Link) (k u v : ℕ) → EndsUpTo n links → u ≤ n → FirstJoin links k u v → v ≤ n
within n links k u v ends most joined =
    let same = joins_equal (Contains (take k links)) (λ x. x - n) each u v joined in omega (arith, most, same)
  where
    each : (m : Link) → Contains (take k links) m → m.low - n ≡ m.high - n
    each m (j, lt, is) =
        let len = length-take k links in
        let below : j < k = omega (arith, len, lt) in
        let high : m.high ≤ n = subst (λ (x : Link). x.high ≤ n) (sym (get_or-take k links j m below) ∙ is) (ends j m (omega (arith, len, lt))) in
        let up = m.ascending in
        omega (arith, high, up)

-- a cluster has at most n + 1 points
pub few_points : (n : ℕ) (links : List Link) (i : ℕ) (l : Link) (a : ℕ) → EndsUpTo n links → slice_get links i ≡ Some l → HasSize (IsInCluster n links (n + i)) a → a ≤ n + 1
few_points n links i l a ends at size = size_few (n + 1) (IsInCluster n links (n + i)) a
    (λ v v_in. let most = within n links (i + 1) l.low v ends (ends_in n links i l ends at).0 ((new_cluster n links i l at v).0 v_in) in omega (arith, most)) size

module _ (n : ℕ) (links : List Link) (ends : EndsUpTo n links) (i : ℕ) (rows : List Merge) (lt : i < length links) (are : AreMergesUpTo n links i rows) where
  link : (l : Link) × (slice_get links i ≡ Some l)
  link = link_there links i lt

  abbrev row : Merge
  row = row_at rows i

  has : HasEnds n links i link.0 row
  has = are.after i link.0 (omega arith) link.1

  size : (c : ℕ) → c < n + i → HasSize (IsInCluster n links c) (points_in n rows c)
  size c there = size_of n links rows i c (omega (arith, lt)) are.before there

  is_merge : IsMerge n links i link.0 (merge_of n rows i)
  is_merge = merge_of_ends n links i link.0 link.1 (are.none i link.0 lt link.1) row has (points_in n rows row.first) (points_in n rows row.second)
      (size row.first has.low.there) (size row.second has.high.there) (min row.first row.second) (max row.first row.second) (points_in n rows row.first + points_in n rows row.second) refl refl refl

  pub below : (row.first < n + length rows) × (row.second < n + length rows)
  below = let first = has.low.there in let second = has.high.there in let len = are.as_many in (omega (arith, first, lt, len), omega (arith, second, lt, len))

  pub few : (merge_of n rows i).size ≤ n + 1
  few = few_points n links i link.0 (merge_of n rows i).size ends link.1 is_merge.size

  pub one_merged : AreMergesUpTo n links (i + 1) (set rows i (merge_of n rows i))
  one_merged = record {
    as_many = length-set rows i (merge_of n rows i) ∙ are.as_many;
    none = are.none;
    before = λ j l before at. elim (cases_eq j i) [
      | inl here ↦
          let at_i : slice_get links i ≡ Some l = ap (slice_get links) (sym here) ∙ at in
          let in_rows : i < length rows = let len = are.as_many in omega (arith, lt, len) in
          let is_new : merge_of n rows i ≡ row_at (set rows i (merge_of n rows i)) i = sym (get_or-set_same rows i (merge_of n rows i) no_row in_rows) in
          subst (λ k. IsMerge n links k l (row_at (set rows i (merge_of n rows i)) k)) (sym here)
          (subst (IsMerge n links i l) is_new (subst (λ (m : Link). IsMerge n links i m (merge_of n rows i)) (same_Some link.0 l (sym link.1 ∙ at_i)) is_merge))
      | inr other ↦ subst (IsMerge n links j l) (sym (get_or-set_other rows i j (merge_of n rows i) no_row other)) (are.before j l (omega (arith, before, other)) at)
    ];
    after = λ j l past at.
        let other : j ≢ i = omega (arith, past) in
        subst (HasEnds n links j l) (sym (get_or-set_other rows i j (merge_of n rows i) no_row other)) (are.after j l (omega (arith, past)) at);
  }

pub all_merged : (n : ℕ) (links : List Link) (i : ℕ) (rows : List Merge) → length links ≤ i → AreMergesUpTo n links i rows → AreMerges n links rows
all_merged n links i rows past are = search (arith, slice_get_within, get_or_from_slice_get)
