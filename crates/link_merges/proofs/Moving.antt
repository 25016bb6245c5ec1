-- What clusters become part of when a link is taken, and rows that are moved past others.
use Rattle.std.proofs.Common.{◌≡◌, ◌≢◌, ℕ, ◌+◌, ◌<◌, ◌⊎◌, List, length, get_or, set, take, Contains, Some, sym, ap, ◌∙◌, subst, inl, inr, ⊎_elim, arith}
use Rattle.std.specs.Prelude.{slice_get}
use Rattle.std.proofs.lemmas.Bool.{cases_eq}
use Rattle.std.proofs.lemmas.Option.{same_Some}
use Rattle.std.proofs.lemmas.List.{length-set, get_or-set_same, get_or-set_other}
use Rattle.links.specs.declared.links.Link.{Link}
use Rattle.links.proofs.Walks.{joins_refl, joins_symm, joins_trans}
use Rattle.link_merges.specs.declared.merges.Merge.{Merge}
use Rattle.link_merges.specs.Merges.{FirstJoin, IsClusterOf}
use Rattle.link_merges.specs.Halves.{now_of, HasEnds, CloseNone, LeadsOn}
use Rattle.link_merges.proofs.Merging.{made, kept, longer, low_to_high, through}
use Rattle.link_merges.proofs.Unique.{one_cluster}

-- what cluster c is part of, after two clusters have become part of another one
pub both_set : (now : List ℕ) (x y next : ℕ) → x < length now → y < length now → (c : ℕ)
    → (((c ≡ x) ⊎ (c ≡ y)) × (now_of (set (set now x next) y next) c ≡ next)) ⊎ ((c ≢ x) × (c ≢ y) × (now_of (set (set now x next) y next) c ≡ now_of now c))
both_set now x y next x_in y_in c = search (arith, cases_eq, set, get_or-set_same, length-set, get_or-set_other)

-- joined vertices have the same cluster
same_cluster : (n : ℕ) (links : List Link) (k u w c : ℕ) → IsClusterOf n links k u c → FirstJoin links k u w → IsClusterOf n links k w c
same_cluster n links k u w c is joined = record {
  there = is.there;
  same = λ v. (
    λ v_in. joins_trans (Contains (take k links)) w u v (joins_symm (Contains (take k links)) u w joined) ((is.same v).0 v_in),
    λ from. (is.same v).1 (joins_trans (Contains (take k links)) u w v joined from),
  );
}

-- vertices with the same cluster are joined
pub joined_in_one : (n : ℕ) (links : List Link) (k u w c : ℕ) → IsClusterOf n links k u c → IsClusterOf n links k w c → FirstJoin links k u w
joined_in_one n links k u w c of_u of_w = (of_u.same w).0 ((of_w.same w).1 (joins_refl (Contains (take k links)) w))

module _ (n : ℕ) (links : List Link) (k : ℕ) (none : CloseNone links k) (l : Link) (link_at : slice_get links k ≡ Some l) (row : Merge) (has : HasEnds n links k l row) where
  -- the row has two different clusters, so the link closes no cycle
  pub apart_more : row.first ≢ row.second → CloseNone links (k + 1)
  apart_more differ i m lt at joined = elim (cases_eq i k) [
    | inl here ↦
        let is_l : m ≡ l = same_link i m here at in
        let ends : FirstJoin links k l.low l.high = subst (λ (x : Link). FirstJoin links k x.low x.high) is_l (subst (λ j. FirstJoin links j m.low m.high) here joined) in
        differ (one_cluster n links k none l.high row.first row.second (same_cluster n links k l.low l.high row.first has.low ends) has.high)
    | inr before ↦ none i m (omega (arith, lt, before)) at joined
  ]
    where
      same_link : (i : ℕ) (m : Link) → i ≡ k → slice_get links i ≡ Some m → m ≡ l
      same_link i m here at = same_Some m l (sym at ∙ ap (slice_get links) here ∙ link_at)

  gone : (u : ℕ) → FirstJoin links k u l.low → IsClusterOf n links (k + 1) u (n + k)
  gone u joined = made n links k l link_at u (longer n links k l link_at u l.low joined)

  gone_first : (u : ℕ) → IsClusterOf n links k u row.first → IsClusterOf n links (k + 1) u (n + k)
  gone_first u is = gone u (joined_in_one n links k u l.low row.first is has.low)

  gone_second : (u : ℕ) → IsClusterOf n links k u row.second → IsClusterOf n links (k + 1) u (n + k)
  gone_second u is = made n links k l link_at u
      (joins_trans (Contains (take (k + 1) links)) u l.high l.low (longer n links k l link_at u l.high (joined_in_one n links k u l.high row.second is has.high))
      (joins_symm (Contains (take (k + 1) links)) l.low l.high (low_to_high n links k l link_at)))

  stays : (u c : ℕ) → IsClusterOf n links k u c → c ≢ row.first → c ≢ row.second → IsClusterOf n links (k + 1) u c
  stays u c is not_first not_second = kept n links k l link_at u c is (λ joined. elim (through n links k l link_at u l.low joined) [
    | inl to ↦ to_low to
    | inr (inl (to, from)) ↦ to_low to
    | inr (inr (to, from)) ↦ not_second (one_cluster n links k none l.high c row.second (same_cluster n links k u l.high c is to) has.high)
  ])
    where
      to_low : ¬ (FirstJoin links k u l.low)
      to_low to = not_first (one_cluster n links k none l.low c row.first (same_cluster n links k u l.low c is to) has.low)

  -- both clusters of the row become part of whatever their union is part of; the other clusters stay what they were
  -- part of
  pub leads_one : (m : ℕ) (now : List ℕ) (next : ℕ) → row.first < length now → row.second < length now → next ≡ now_of now (n + k)
      → LeadsOn n links (k + 1) m now → LeadsOn n links k m (set (set now row.first next) row.second next)
  leads_one m now next first_in second_in next_is leads u c is = elim (both_set now row.first row.second next first_in second_in c) [
    | inl (either, here) ↦
        let is_new : IsClusterOf n links (k + 1) u (n + k) = ⊎_elim (λ same. gone_first u (subst (IsClusterOf n links k u) same is))
        (λ same. gone_second u (subst (IsClusterOf n links k u) same is)) either in
        subst (IsClusterOf n links m u) (sym next_is ∙ sym here) (leads u (n + k) is_new)
    | inr (not_first, not_second, as_was) ↦ subst (IsClusterOf n links m u) (sym as_was) (leads u c (stays u c is not_first not_second))
  ]
