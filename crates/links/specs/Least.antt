-- The weight of a set of links, and that no spanning forest weighs less than the minimum spanning forest.
use Rattle.std.specs.Prelude.{◌≢◌, ◌≡◌, ℤ, pos, ◌+ℤ◌, List, Contains, AllPairs, fold}
use Rattle.std.specs.Int.Signed.{◌≤ℤ◌}
use Rattle.links.specs.declared.links.Link.{Link}
use Rattle.links.specs.Forest.{IsForestOf}
use Rattle.links.specs.LinkSet.{IsPartOf, SameLinks, HasNoCycle, Spans}

-- the sum of the weights of the links of a list: a link that occurs several times counts each time
abbrev pub sum_of_weights : List Link → ℤ
sum_of_weights links = fold (λ sum l. sum +ℤ l.weight) (pos 0) links

-- no link occurs twice
abbrev pub AreDistinct : List Link → Type 0
AreDistinct links = AllPairs (λ l m. l ≢ m) links

-- the weight of the set of a list's links: the sum of their weights, each link once, however often and where it occurs
pub record IsTotalOf (links : List Link) (total : ℤ) : Type 0 where
  pub once : List Link
  pub distinct : AreDistinct once
  pub members : SameLinks (Contains once) (Contains links)
  pub total_is : total ≡ sum_of_weights once

-- links of a list that close no cycle and join what the list joins
pub record IsSpanningForestOf (links some : List Link) : Type 0 where
  pub from_list : IsPartOf (Contains some) (Contains links)
  pub no_cycle : HasNoCycle (Contains some)
  pub spans : Spans (Contains some) links

-- no spanning forest of the list weighs less
abbrev pub IsLightest : List Link → ℤ → Type 0
IsLightest links total = (other : List Link) (its : ℤ) → IsSpanningForestOf links other → IsTotalOf other its → total ≤ℤ its

-- ---- the laws

-- the forest of a list is a spanning forest of it, its links are distinct, and no spanning forest weighs less
abbrev pub ForestIsLightest : Type 0
ForestIsLightest =
    (links forest : List Link) → IsForestOf links forest
    → IsSpanningForestOf links forest × IsTotalOf forest (sum_of_weights forest) × IsLightest links (sum_of_weights forest)

-- the forest of links that close no cycle is all of them
abbrev pub NoCycleIsItsForest : Type 0
NoCycleIsItsForest =
    (links forest : List Link) → HasNoCycle (Contains links) → IsForestOf links forest → SameLinks (Contains forest) (Contains links)
