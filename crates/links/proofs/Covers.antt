-- Links that cover a list have its forest.
use Rattle.std.proofs.Common.{ℕ, ◌↔◌, ℤ, List, ◌++◌, Contains, sym, subst, inl, inr, arith}
use Rattle.std.specs.Int.Signed.{◌≤ℤ◌}
use Rattle.std.proofs.lemmas.Int.{ints}
use Rattle.std.proofs.lemmas.List.Elements.{Contains-append_cases, Contains-append_left, Contains-append_right}
use Rattle.links.specs.declared.links.Link.{Link}
use Rattle.links.specs.Link.{IsBelow}
use Rattle.links.specs.Walk.{Joins}
use Rattle.links.specs.Forest.{LinksBelow, IsForestLink}
use Rattle.links.specs.LinkSet.{LinkSet}
use Rattle.links.specs.Thresholds.{ForestJoinsUpTo, ForestJoinsBelow}
use Rattle.links.specs.Covers.{LinksNotAbove, IsCoveredBy, CoverHasForest, ForestCoversList, SameLinksCover, CoverOfCover, CoversTogether, ForestOfForests, ForestOfSameLinks}
use Rattle.links.proofs.Members.{contains_dec}
use Rattle.links.proofs.Keys.{link_dec, trichotomy, below_irrefl, below_trans}
use Rattle.links.proofs.Walks.{Passing, joins_link, joins_more, joins_replace}
use Rattle.links.proofs.ForestSpans.{ForestNotAbove, forest_joins_ends}
use Rattle.links.proofs.Least.{below_weighs}

-- whatever is below a link of the set is in the set
abbrev pub IsDownward : LinkSet → Type 0
IsDownward P = (l m : Link) → P l → IsBelow m l → P m

-- whatever isn't above a link of the set is in the set too
not_above_in : (P : LinkSet) → IsDownward P → (l m : Link) → P l → ¬ (IsBelow l m) → P m
not_above_in P down l m l_in apart = search (arith, trichotomy)

-- In such a set, the links of a cover join what the list's links join. The endpoints of each link of the list are
-- joined by links of the cover that aren't above it, and these are in the set if the link is.
pub cover_joins : (P : LinkSet) → IsDownward P → (links kept : List Link) → IsCoveredBy links kept → (u v : ℕ) → Joins (Passing links P) u v ↔ Joins (Passing kept P) u v
cover_joins P down links kept is u v = (
  joins_replace (Passing links P) (Passing kept P)
      (λ l l_in. joins_more (LinksNotAbove kept l) (Passing kept P) (λ m m_is. (m_is.0, not_above_in P down l m l_in.1 m_is.1)) l.low l.high (is.joined l l_in.0)) u v,
  joins_more (Passing kept P) (Passing links P) (λ l l_in. (is.among l l_in.0, l_in.1)) u v,
)

below_down : (l : Link) → IsDownward (λ m. IsBelow m l)
below_down l m k m_below k_below = below_trans k m l k_below m_below

not_above_down : (l : Link) → IsDownward (λ m. ¬ (IsBelow l m))
not_above_down l m k m_is k_below above = m_is (below_trans l k m above k_below)

up_to_down : (w : ℤ) → IsDownward (λ m. m.weight ≤ℤ w)
up_to_down w l m within below = let less = below_weighs m l below in omega (arith, ints, less, within)

pub cover_has_forest : CoverHasForest
cover_has_forest links kept forest cover is = record { ascending = is.ascending; exact = λ l. (to l, from l) }
  where
    to : (l : Link) → Contains forest l → IsForestLink links l
    to l l_in =
        let own = (is.exact l).0 l_in in
        (cover.among l own.0, λ joined. own.1 ((cover_joins (λ m. IsBelow m l) (below_down l) links kept cover l.low l.high).0 joined))

    -- kept links that aren't above the link join its endpoints; if the link isn't one of them, they are below it
    is_kept : (l : Link) → IsForestLink links l → Contains kept l
    is_kept l own = elim (contains_dec link_dec kept l) [
      | inl l_in ↦ l_in
      | inr outside ↦ absurd (own.1 (joins_more (LinksNotAbove kept l) (LinksBelow links l) (λ m m_is. (
        cover.among m m_is.0,
        elim (trichotomy m l) [
          | inl below ↦ below
          | inr rest ↦ elim rest [ inl same ↦ absurd (outside (subst (Contains kept) same m_is.0)) | inr above ↦ absurd (m_is.1 above) ]
        ],
      )) l.low l.high (cover.joined l own.0)))
    ]

    from : (l : Link) → IsForestLink links l → Contains forest l
    from l own = (is.exact l).1 (is_kept l own, λ joined. own.1 ((cover_joins (λ m. IsBelow m l) (below_down l) links kept cover l.low l.high).1 joined))

pub forest_covers_list : ForestCoversList
forest_covers_list links forest is = record {
  among = λ l l_in. ((is.exact l).0 l_in).0;
  joined = λ l l_in. joins_more (ForestNotAbove links l) (LinksNotAbove forest l) (λ m m_is. ((is.exact m).1 m_is.0, m_is.1)) l.low l.high (forest_joins_ends links l l_in);
}

pub same_links_cover : SameLinksCover
same_links_cover links other same = record {
  among = λ l l_in. (same l).1 l_in;
  joined = λ l l_in. joins_link (LinksNotAbove other l) l ((same l).0 l_in, below_irrefl l);
}

pub cover_of_cover : CoverOfCover
cover_of_cover links kept fewer first second = record {
  among = λ l l_in. first.among l (second.among l l_in);
  joined = λ l l_in. (cover_joins (λ m. ¬ (IsBelow l m)) (not_above_down l) kept fewer second l.low l.high).0 (first.joined l l_in);
}

pub covers_together : CoversTogether
covers_together first second a b of_first of_second = record {
  among = λ l l_in. elim (Contains-append_cases a b l l_in) [
    | inl in_a ↦ Contains-append_left first second l (of_first.among l in_a)
    | inr in_b ↦ Contains-append_right first second l (of_second.among l in_b)
  ];
  joined = λ l l_in. elim (Contains-append_cases first second l l_in) [
    | inl in_first ↦ joins_more (LinksNotAbove a l) (LinksNotAbove (a ++ b) l) (λ m m_is. (Contains-append_left a b m m_is.0, m_is.1)) l.low l.high (of_first.joined l in_first)
    | inr in_second ↦ joins_more (LinksNotAbove b l) (LinksNotAbove (a ++ b) l) (λ m m_is. (Contains-append_right a b m m_is.0, m_is.1)) l.low l.high (of_second.joined l in_second)
  ];
}

pub forest_of_forests : ForestOfForests
forest_of_forests first second a b forest is_a is_b = search (arith, cover_has_forest, covers_together, forest_covers_list)

pub forest_of_same_links : ForestOfSameLinks
forest_of_same_links links other forest same = cover_has_forest other links forest (same_links_cover other links (λ l. ((same l).1, (same l).0)))

pub forest_joins_up_to : ForestJoinsUpTo
forest_joins_up_to links forest is w = cover_joins (λ l. l.weight ≤ℤ w) (up_to_down w) links forest (forest_covers_list links forest is)

pub forest_joins_below : ForestJoinsBelow
forest_joins_below links forest is l = cover_joins (λ m. IsBelow m l) (below_down l) links forest (forest_covers_list links forest is)
