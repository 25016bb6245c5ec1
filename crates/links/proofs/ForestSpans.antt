-- The forest of a list has no cycle and spans the list, and no smaller part of it spans the list.
use Rattle.std.proofs.Common.{ℕ, zero, suc, ◌≤◌, List, length, Contains, subst, inl, inr, arith}
use Rattle.links.specs.declared.links.Link.{Link}
use Rattle.links.specs.Link.{IsBelow}
use Rattle.links.specs.Walk.{Joins}
use Rattle.links.specs.Forest.{LinksBelow, IsForestLink}
use Rattle.links.proofs.Keys.{below_dec, below_irrefl, below_trans}
use Rattle.links.proofs.Spanning.{spanning_part}
use Rattle.links.proofs.Walks.{joins_link, joins_more, joins_replace, joins_dec}
use Rattle.links.specs.LinkSet.{LinkSet, Either, IsPartOf, SameLinks, HasNoCycle, Spans}
use Rattle.links.proofs.Sublists.{without_one}
use Rattle.links.proofs.Cycles.{no_cycle_part, no_cycle_either}

abbrev NoLink : LinkSet
NoLink l = ⊥

-- If forest links are taken in the order of their keys, their endpoints are never joined yet. That makes them forest
-- links.
pub forest_no_cycle : (links : List Link) → HasNoCycle (IsForestLink links)
forest_no_cycle links =
    no_cycle_part (IsForestLink links) (Either NoLink (IsForestLink links)) (λ l is_in. inr is_in)
    (no_cycle_either NoLink (IsForestLink links) (λ l is_in joined. is_in)
    (λ m is_forest Q each joined. is_forest.1 (joins_more (Either NoLink (Contains Q)) (LinksBelow links m) (to m Q each) m.low m.high joined)))
  where
    to : (m : Link) (Q : List Link) → ((q : Link) → Contains Q q → IsForestLink links q × IsBelow q m) → (k : Link) → Either NoLink (Contains Q) k → LinksBelow links m k
    to m Q each k (inl none) = absurd none
    to m Q each k (inr in_Q) = ((each k in_Q).0.0, (each k in_Q).1)

-- the forest's links that aren't above l
abbrev pub ForestNotAbove : List Link → Link → LinkSet
ForestNotAbove links l m = IsForestLink links m × ¬ (IsBelow l m)

-- links that aren't above a link aren't above any greater link
not_above_higher : (links : List Link) (l m : Link) → IsBelow m l → (u v : ℕ) → Joins (ForestNotAbove links m) u v → Joins (ForestNotAbove links l) u v
not_above_higher links l m below = joins_more (ForestNotAbove links m) (ForestNotAbove links l) (λ k k_is. (k_is.0, λ above. k_is.1 (below_trans m l k below above)))

-- The forest joins the endpoints of each link of the list, by links that aren't above it. If smaller links don't join
-- them, the link is in the forest. Otherwise, each of these smaller links has its endpoints joined in this way, by
-- induction. (The list `lower` has all links of the list that are below l, and gets shorter.)
ends_joined : (links : List Link) (fuel : ℕ) (lower : List Link) → length lower ≤ fuel → (l : Link) → Contains links l
    → ((m : Link) → LinksBelow links l m → Contains lower m) → Joins (ForestNotAbove links l) l.low l.high
ends_joined links zero lower small l is_in has = elim (joins_dec (λ m. IsBelow m l) (λ m. below_dec m l) links l.low l.high) [
  | inr apart ↦ joins_link (ForestNotAbove links l) l ((is_in, apart), below_irrefl l)
  | inl joined ↦ joins_replace (LinksBelow links l) (ForestNotAbove links l) (λ m below. let fewer = without_one lower m (has m below) in absurd (omega (arith, fewer.shorter))) l.low l.high joined
]
ends_joined links (suc fuel) lower small l is_in has = elim (joins_dec (λ m. IsBelow m l) (λ m. below_dec m l) links l.low l.high) [
  | inr apart ↦ joins_link (ForestNotAbove links l) l ((is_in, apart), below_irrefl l)
  | inl joined ↦ joins_replace (LinksBelow links l) (ForestNotAbove links l) (λ m below.
      let fewer = without_one lower m (has m below) in
      let shorter : length fewer.rest ≤ fuel = omega (arith, fewer.shorter) in
      not_above_higher links l m below.1 m.low m.high (ends_joined links fuel fewer.rest shorter m below.0 (λ k k_below.
      fewer.keeps k (has k (k_below.0, below_trans k m l k_below.1 below.1)) (λ same. below_irrefl m (subst (λ x. IsBelow x m) same k_below.1))))) l.low l.high joined
]

pub forest_joins_ends : (links : List Link) (l : Link) → Contains links l → Joins (ForestNotAbove links l) l.low l.high
forest_joins_ends links l is_in = ends_joined links (length links) links (omega arith) l is_in (λ m below. below.0)

pub forest_spans : (links : List Link) → Spans (IsForestLink links) links
forest_spans links = joins_replace (Contains links) (IsForestLink links) (λ l is_in. joins_more (ForestNotAbove links l) (IsForestLink links)
    (λ m m_is. m_is.0) l.low l.high (forest_joins_ends links l is_in))

pub spanning_part_is_forest : (links : List Link) (P : LinkSet) → IsPartOf P (IsForestLink links) → Spans P links → SameLinks P (IsForestLink links)
spanning_part_is_forest = spanning_part
