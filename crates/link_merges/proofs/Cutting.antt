-- Each vertex has a cluster under the first links, and the first links of a forest join what those of the graph join.
use Rattle.std.proofs.Common.{◌≡◌, ℕ, zero, suc, ◌+◌, ◌-◌, ◌<◌, ◌≤◌, ◌↔◌, ℤ, List, length, get_or, take, Contains, Some, sym, ap, ◌∙◌, subst, inl, inr, arith}
use Rattle.std.specs.Prelude.{slice_get}
use Rattle.std.proofs.lemmas.List.{take_all, length-take, get_or-take}
use Rattle.std.proofs.lemmas.Option.{slice_get_cases, slice_get-get_or}
use Rattle.links.specs.declared.links.Link.{Link}
use Rattle.links.specs.Walk.{Joins}
use Rattle.links.specs.LinkSet.{SameLinks}
use Rattle.links.specs.Thresholds.{LinksUpTo}
use Rattle.links.proofs.Members.{contains_none}
use Rattle.links.proofs.Walks.{Decided, Passing, joins_same, joins_more, joins_alike, joins_equal, joins_dec, dec_along}
use Rattle.links.proofs.Covers.{forest_joins_up_to}
use Rattle.link_merges.specs.Merges.{FirstJoin, IsInCluster, IsClusterOf}
use Rattle.link_merges.specs.Cuts.{AreFirstUpTo, MergesCutAsTheGraph}
use Rattle.link_merges.proofs.Merging.{made, kept}

abbrev HasCluster : ℕ → List Link → ℕ → ℕ → Type 0
HasCluster n links u k = (c : ℕ) × IsClusterOf n links k u c

abbrev Any : Link → Type 0
Any l = Unit {0}

joined_dec : (links : List Link) (u v : ℕ) → Decided (Joins (Contains links) u v)
joined_dec links u v = dec_along
    (joins_more (Passing links Any) (Contains links) (λ m is. is.0) u v)
    (joins_more (Contains links) (Passing links Any) (λ m m_in. (m_in, tt)) u v)
    (joins_dec Any (λ l. inl tt) links u v)

-- at first, the cluster of a vertex is its point
pub at_first : (n : ℕ) (links : List Link) (u : ℕ) → 1 ≤ u → u ≤ n → IsClusterOf n links 0 u (u - 1)
at_first n links u from to = record {
  there = omega (arith, from, to);
  same = λ v. (
    λ v_in. joins_same (Contains (take 0 links)) u v (sym (point v v_in)),
    λ joined. let same = itself v joined in inl (omega (arith, from, to), omega (arith, from, same)),
  );
}
  where
    point : (v : ℕ) → IsInCluster n links (u - 1) v → v ≡ u
    point v (inl (lt, is)) = omega (arith, is, from)
    point v (inr (i, l, e, at, joined)) = absurd (omega (arith, e, from, to))

    itself : (v : ℕ) → FirstJoin links 0 u v → u ≡ v
    itself v joined = joins_equal (Contains (take 0 links)) (λ x. x) (λ l l_in. absurd (contains_none l l_in)) u v joined

-- the next link makes one cluster of what it joins, and doesn't change the others
one_further : (n : ℕ) (links : List Link) (u k : ℕ) (l : Link) → slice_get links k ≡ Some l → HasCluster n links u k → HasCluster n links u (k + 1)
one_further n links u k l link_at (c, is) = elim (joined_dec (take (k + 1) links) u l.low) [
  | inl joined ↦ (n + k, made n links k l link_at u joined)
  | inr not ↦ (c, kept n links k l link_at u c is not)
]

-- past the last link, nothing changes
none_further : (n : ℕ) (links : List Link) (u k : ℕ) → length links ≤ k → HasCluster n links u k → HasCluster n links u (k + 1)
none_further n links u k past (c, is) =
    let same : take k links ≡ take (k + 1) links = take_all k links past ∙ sym (take_all (k + 1) links (omega (arith, past))) in (
      c,
      record {
        there = let lt = is.there in omega (arith, lt);
        same = λ v. subst (λ (ls : List Link). IsInCluster n links c v ↔ Joins (Contains ls) u v) same (is.same v);
      },
    )

pub cluster_for : (n : ℕ) (links : List Link) (u : ℕ) → 1 ≤ u → u ≤ n → (k : ℕ) → HasCluster n links u k
cluster_for n links u from to zero = (u - 1, at_first n links u from to)
cluster_for n links u from to (suc k) =
    let one : k + 1 ≡ suc k = omega arith in
    let before = cluster_for n links u from to k in
    subst (HasCluster n links u) one (elim (slice_get_cases links k).1 [
      | inl found ↦ one_further n links u k found.0 found.2 before
      | inr past ↦ none_further n links u k past.0 before
    ])

-- the first links are those of the forest up to the weight
first_up_to : (taken forest : List Link) (k : ℕ) (w : ℤ) → SameLinks (Contains taken) (Contains forest) → AreFirstUpTo taken k w → (m : Link) → Contains (take k taken) m ↔ LinksUpTo forest w m
first_up_to taken forest k w same up m = (to, back)
  where
    at_place : (j : ℕ) → j < length taken → get_or taken j m ≡ m → slice_get taken j ≡ Some m
    at_place j lt is = slice_get-get_or taken j m lt ∙ ap (λ (l : Link). Some l) is

    to : Contains (take k taken) m → LinksUpTo forest w m
    to (j, lt, is) =
        let len = length-take k taken in
        let below : j < k = omega (arith, len, lt) in
        let within : j < length taken = omega (arith, len, lt) in
        let here = sym (get_or-take k taken j m below) ∙ is in
        ((same m).0 (j, within, here), (up j m (at_place j within here)).0 below)

    back : LinksUpTo forest w m → Contains (take k taken) m
    back (m_in, weighs) = found ((same m).1 m_in)
      where
        found : Contains taken m → Contains (take k taken) m
        found (j, lt, is) =
            let below = (up j m (at_place j lt is)).1 weighs in
            let len = length-take k taken in
            (j, omega (arith, len, lt, below), get_or-take k taken j m below ∙ is)

pub cut_as_the_graph : MergesCutAsTheGraph
cut_as_the_graph n links forest taken is same k w up u from to =
    let own = cluster_for n taken u from to k in (
      own.0,
      own.1.there,
      λ v.
          let first = joins_alike (Contains (take k taken)) (LinksUpTo forest w) (first_up_to taken forest k w same up) u v in
          let graph = forest_joins_up_to links forest is w u v in
          (λ v_in. graph.1 (first.0 ((own.1.same v).0 v_in)), λ joined. (own.1.same v).1 (first.1 (graph.0 joined))),
    )
