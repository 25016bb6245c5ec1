-- Adding one link: it makes one cluster of those of its endpoints, and doesn't change the others.
use Rattle.std.proofs.Common.{◌≡◌, ◌≢◌, ℕ, zero, suc, ◌+◌, ◌<◌, ◌≤◌, ◌↔◌, List, [], ◌∷◌, ◌++◌, length, get_or, take, Contains, Some, refl, sym, ap, ◌∙◌, subst, inl, inr, arith}
use Rattle.std.specs.Prelude.{slice_get}
use Rattle.std.proofs.lemmas.List.{take_more, length-take, get_or-take}
use Rattle.std.proofs.lemmas.List.Elements.{Contains-append_left, Contains-push, Contains-push_cases, Contains-get_or}
use Rattle.std.proofs.lemmas.List.Quantifiers.{all_pairs_push}
use Rattle.std.proofs.lemmas.Option.{same_Some, slice_get_within, slice_get_cases, get_or_from_slice_get}
use Rattle.links.specs.declared.links.Link.{Link}
use Rattle.links.specs.Link.{EndsUpTo}
use Rattle.links.specs.Least.{AreDistinct}
use Rattle.links.specs.LinkSet.{LinkSet, Without}
use Rattle.links.proofs.Members.{contains_none}
use Rattle.links.proofs.Walks.{WithLink, JoinsThrough, joins_link, joins_symm, joins_trans, joins_more, joins_one_more}
use Rattle.links.proofs.Cycles.{no_cycle_part, no_cycle_one_more}
use Rattle.link_key.specs.Components.{IsAcyclic}
use Rattle.link_merges.specs.Merges.{FirstJoin, IsInCluster, IsClusterOf}
use Rattle.link_merges.specs.Halves.{CloseNone}

pub link_there : (links : List Link) (k : ℕ) → k < length links → (l : Link) × (slice_get links k ≡ Some l)
link_there links k lt = elim (slice_get_cases links k).1 [
  | inl found ↦ (found.0, found.2)
  | inr past ↦ absurd (let over = past.0 in omega (arith, lt, over))
]

pub ends_in : (n : ℕ) (links : List Link) (k : ℕ) (l : Link) → EndsUpTo n links → slice_get links k ≡ Some l → (l.low ≤ n) × (1 ≤ l.high) × (l.high ≤ n)
ends_in n links k l ends link_at = search (arith, get_or_from_slice_get, slice_get_within)

-- the links up to index k are the earlier links and the link at k
first_more : (links : List Link) (k : ℕ) (l : Link) → slice_get links k ≡ Some l → take (k + 1) links ≡ take k links ++ l ∷ []
first_more links k l link_at =
    take_more links k l (slice_get_within links k l link_at) ∙ ap (λ (m : Link). take k links ++ m ∷ []) (get_or_from_slice_get links k l l link_at)

pub first_links : (links : List Link) (k : ℕ) (l : Link) → slice_get links k ≡ Some l → (m : Link) → Contains (take (k + 1) links) m ↔ WithLink (Contains (take k links)) l m
first_links links k l link_at m = (to, back)
  where
    to : Contains (take (k + 1) links) m → WithLink (Contains (take k links)) l m
    to m_in = elim (Contains-push_cases (take k links) l m (subst (λ (ls : List Link). Contains ls m) (first_more links k l link_at) m_in)) [
      | inl before ↦ inl before
      | inr is ↦ inr (sym is)
    ]

    in_more : WithLink (Contains (take k links)) l m → Contains (take k links ++ l ∷ []) m
    in_more (inl before) = Contains-append_left (take k links) (l ∷ []) m before
    in_more (inr is) = subst (Contains (take k links ++ l ∷ [])) (sym is) (Contains-push (take k links) l)

    back : WithLink (Contains (take k links)) l m → Contains (take (k + 1) links) m
    back either = subst (λ (ls : List Link). Contains ls m) (sym (first_more links k l link_at)) (in_more either)

-- the cluster that link k makes
pub new_cluster : (n : ℕ) (links : List Link) (k : ℕ) (l : Link) → slice_get links k ≡ Some l → (w : ℕ) → IsInCluster n links (n + k) w ↔ FirstJoin links (k + 1) l.low w
new_cluster n links k l link_at w = (to, λ joined. inr (k, l, refl, link_at, joined))
  where
    to : IsInCluster n links (n + k) w → FirstJoin links (k + 1) l.low w
    to (inl (lt, is)) = absurd (omega (arith, lt))
    to (inr (i, m, e, at, joined)) =
        let at_k : i ≡ k = omega (arith, e) in
        let same : m ≡ l = same_Some m l (sym at ∙ ap (slice_get links) at_k ∙ link_at) in
        subst (λ (x : Link). FirstJoin links (k + 1) x.low w) same (subst (λ j. FirstJoin links (j + 1) m.low w) at_k joined)

-- links that close no cycle, and another link whose endpoints they don't join
acyclic_more : (links : List Link) (k : ℕ) (l : Link) → slice_get links k ≡ Some l → IsAcyclic (take k links) → ¬ (FirstJoin links k l.low l.high) → IsAcyclic (take (k + 1) links)
acyclic_more links k l link_at (distinct, none) apart = (
  subst AreDistinct (sym (first_more links k l link_at)) (all_pairs_push (λ (x y : Link). x ≢ y) (take k links) l distinct new),
  no_cycle_part (Contains (take (k + 1) links)) (WithLink (Contains (take k links)) l) (λ m m_in. (first_links links k l link_at m).0 m_in)
      (no_cycle_one_more (Contains (take k links)) l none apart),
)
  where
    new : (j : ℕ) (d : Link) → j < length (take k links) → get_or (take k links) j d ≢ l
    new j d lt same = apart (joins_link (Contains (take k links)) l (subst (Contains (take k links)) same (Contains-get_or (take k links) j d lt)))

-- if the links close no cycle, the endpoints of a later link aren't joined yet
pub ends_apart : (links : List Link) (k : ℕ) (l : Link) → slice_get links k ≡ Some l → IsAcyclic links → ¬ (FirstJoin links k l.low l.high)
ends_apart links k l link_at (distinct, none) joined =
    none l (k, in_range, get_or_from_slice_get links k l l link_at)
    (joins_more (Contains (take k links)) (Without (Contains links) l) (λ m m_in. (in_links m m_in, differs m m_in)) l.low l.high joined)
  where
    in_range : k < length links
    in_range = slice_get_within links k l link_at

    before_k : (j : ℕ) → j < length (take k links) → j < k
    before_k j lt = let len = length-take k links in omega (arith, len, lt)

    in_links : (m : Link) → Contains (take k links) m → Contains links m
    in_links m (j, lt, at) = let below = before_k j lt in (j, omega (arith, below, in_range), sym (get_or-take k links j m below) ∙ at)

    differs : (m : Link) → Contains (take k links) m → m ≢ l
    differs m (j, lt, at) same = let below = before_k j lt in
        distinct j k m below in_range (sym (get_or-take k links j m below) ∙ at ∙ same ∙ sym (get_or_from_slice_get links k l m link_at))

-- if the links close no cycle, no link's endpoints are joined by the earlier links
pub none_closes : (links : List Link) (k : ℕ) → IsAcyclic links → CloseNone links k
none_closes links k acyclic i l lt link_at = ends_apart links i l link_at acyclic

pub acyclic_first : (links : List Link) (k : ℕ) → k ≤ length links → CloseNone links k → IsAcyclic (take k links)
acyclic_first links zero most none = (λ i j d lt in_list. absurd (omega (arith, in_list)), λ l l_in joined. contains_none l l_in)
acyclic_first links (suc k) most none =
    let lt : k < length links = omega (arith, most) in
    let found = link_there links k lt in
    let one : k + 1 ≡ suc k = omega arith in
    subst (λ j. IsAcyclic (take j links)) one
    (acyclic_more links k found.0 found.1 (acyclic_first links k (omega (arith, most)) (λ i l before. none i l (omega (arith, before)))) (none k found.0 (omega arith) found.1))

module _ (n : ℕ) (links : List Link) (k : ℕ) (l : Link) (link_at : slice_get links k ≡ Some l) where
  abbrev S : LinkSet
  S = Contains (take k links)

  abbrev T : LinkSet
  T = Contains (take (k + 1) links)

  pub longer : (u v : ℕ) → FirstJoin links k u v → FirstJoin links (k + 1) u v
  longer = joins_more S T (λ m m_in. (first_links links k l link_at m).1 (inl m_in))

  pub low_to_high : FirstJoin links (k + 1) l.low l.high
  low_to_high = joins_link T l ((first_links links k l link_at l).1 (inr refl))

  pub through : (u v : ℕ) → FirstJoin links (k + 1) u v → JoinsThrough S l u v
  through u v joined = (joins_one_more S l u v).0 (joins_more T (WithLink S l) (λ m m_in. (first_links links k l link_at m).0 m_in) u v joined)

  -- a vertex that is joined to the link's endpoints is in the new cluster
  pub made : (u : ℕ) → FirstJoin links (k + 1) u l.low → IsClusterOf n links (k + 1) u (n + k)
  made u is = record {
    there = omega arith;
    same = λ v. (
      λ v_in. joins_trans T u l.low v is ((new_cluster n links k l link_at v).0 v_in),
      λ joined. (new_cluster n links k l link_at v).1 (joins_trans T l.low u v (joins_symm T u l.low is) joined),
    );
  }

  -- any other vertex keeps its cluster
  pub kept : (u c : ℕ) → IsClusterOf n links k u c → ¬ (FirstJoin links (k + 1) u l.low) → IsClusterOf n links (k + 1) u c
  kept u c is isnt = record {
    there = let lt = is.there in omega (arith, lt);
    same = λ v. (λ v_in. longer u v ((is.same v).0 v_in), λ joined. (is.same v).1 (shorter v (through u v joined)));
  }
    where
      shorter : (v : ℕ) → JoinsThrough S l u v → FirstJoin links k u v
      shorter v (inl joined) = joined
      shorter v (inr (inl (to, from))) = absurd (isnt (longer u l.low to))
      shorter v (inr (inr (to, from))) = absurd (isnt (joins_trans T u l.high l.low (longer u l.high to) (joins_symm T l.low l.high low_to_high)))
