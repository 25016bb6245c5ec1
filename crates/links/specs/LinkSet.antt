-- Sets of links.
use Rattle.std.specs.Prelude.{ℕ, ◌≢◌, ◌⊎◌, ◌↔◌, List, Contains}
use Rattle.links.specs.declared.links.Link.{Link}
use Rattle.links.specs.Walk.{Joins}

-- a set of links, as the condition to be in it; the set of a list's links is `Contains list`
abbrev pub LinkSet : Type 1
LinkSet = Link → Type 0

-- the links of either set
abbrev pub Either : LinkSet → LinkSet → LinkSet
Either S T l = S l ⊎ T l

-- the links of the set other than l
abbrev pub Without : LinkSet → Link → LinkSet
Without S l m = S m × (m ≢ l)

-- every link of the first set is in the second
abbrev pub IsPartOf : LinkSet → LinkSet → Type 0
IsPartOf S T = (l : Link) → S l → T l

-- the two sets have the same links
abbrev pub SameLinks : LinkSet → LinkSet → Type 0
SameLinks S T = (l : Link) → S l ↔ T l

-- no link of the set has its endpoints joined by the others
abbrev pub HasNoCycle : LinkSet → Type 0
HasNoCycle S = (l : Link) → S l → ¬ (Joins (Without S l) l.low l.high)

-- the set joins whatever the list joins
abbrev pub Spans : LinkSet → List Link → Type 0
Spans S links = (u v : ℕ) → Joins (Contains links) u v → Joins S u v
