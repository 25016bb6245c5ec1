-- Links of a list that can replace the list, because they have the same forest.
use Rattle.std.specs.Prelude.{List, ◌++◌, Contains}
use Rattle.links.specs.declared.links.Link.{Link}
use Rattle.links.specs.Link.{IsBelow}
use Rattle.links.specs.Walk.{Joins}
use Rattle.links.specs.Forest.{IsForestOf}
use Rattle.links.specs.LinkSet.{LinkSet, IsPartOf, SameLinks}

-- the links of the list that aren't above l
abbrev pub LinksNotAbove : List Link → Link → LinkSet
LinksNotAbove links l m = Contains links m × ¬ (IsBelow l m)

-- the kept links are links of the list, and for each link of it, kept links that aren't above that link join its
-- endpoints
pub record IsCoveredBy (links kept : List Link) : Type 0 where
  pub among : IsPartOf (Contains kept) (Contains links)
  pub joined : (l : Link) → Contains links l → Joins (LinksNotAbove kept l) l.low l.high

-- ---- the laws

-- links that cover a list have its forest
abbrev pub CoverHasForest : Type 0
CoverHasForest = (links kept forest : List Link) → IsCoveredBy links kept → IsForestOf kept forest → IsForestOf links forest

-- a forest covers its list
abbrev pub ForestCoversList : Type 0
ForestCoversList = (links forest : List Link) → IsForestOf links forest → IsCoveredBy links forest

-- a list covers every list with the same links, itself included
abbrev pub SameLinksCover : Type 0
SameLinksCover = (links other : List Link) → SameLinks (Contains links) (Contains other) → IsCoveredBy links other

-- what covers a cover covers the list
abbrev pub CoverOfCover : Type 0
CoverOfCover = (links kept fewer : List Link) → IsCoveredBy links kept → IsCoveredBy kept fewer → IsCoveredBy links fewer

-- covers of two lists together cover the lists together, so a cover stays one if the same links are added to it and its
-- list
abbrev pub CoversTogether : Type 0
CoversTogether =
    (first second a b : List Link) → IsCoveredBy first a → IsCoveredBy second b → IsCoveredBy (first ++ second) (a ++ b)

-- the forest of two lists' forests together is that of the lists together
abbrev pub ForestOfForests : Type 0
ForestOfForests =
    (first second a b forest : List Link) → IsForestOf first a → IsForestOf second b → IsForestOf (a ++ b) forest
    → IsForestOf (first ++ second) forest

-- the forest depends only on the set of links, not on their order or on repeats
abbrev pub ForestOfSameLinks : Type 0
ForestOfSameLinks =
    (links other forest : List Link) → SameLinks (Contains links) (Contains other) → IsForestOf links forest → IsForestOf other forest
