-- The minimum spanning forest of a list of links.
use Rattle.std.specs.Prelude.{◌≡◌, ◌↔◌, List, Contains}
use Rattle.links.specs.declared.links.Link.{Link}
use Rattle.links.specs.Link.{IsBelow, IsAscending}
use Rattle.links.specs.Walk.{Joins}

-- the links of the list whose key is smaller than that of l
abbrev pub LinksBelow : List Link → Link → Link → Type 0
LinksBelow links l m = Contains links m × IsBelow m l

-- a link of the list whose endpoints aren't joined by the links of smaller keys
abbrev pub IsForestLink : List Link → Link → Type 0
IsForestLink links l = Contains links l × ¬ (Joins (LinksBelow links l) l.low l.high)

-- the forest: these links and no others, with ascending keys, each once
pub record IsForestOf (links forest : List Link) : Type 0 where
  pub ascending : IsAscending forest
  pub exact : (l : Link) → Contains forest l ↔ IsForestLink links l

-- each list of links has exactly one forest
abbrev pub EachHasOneForest : Type 0
EachHasOneForest =
    (links : List Link)
    → (forest : List Link) × IsForestOf links forest × ((other : List Link) → IsForestOf links other → other ≡ forest)
