-- What the lightest links of a list join: those up to a weight, and those below a key.
use Rattle.std.specs.Prelude.{◌↔◌, ℕ, ℤ, List, Contains}
use Rattle.std.specs.Int.Signed.{◌≤ℤ◌}
use Rattle.links.specs.declared.links.Link.{Link}
use Rattle.links.specs.Walk.{Joins}
use Rattle.links.specs.Forest.{LinksBelow, IsForestOf}
use Rattle.links.specs.LinkSet.{LinkSet}

-- the links of the list that weigh at most w
abbrev pub LinksUpTo : List Link → ℤ → LinkSet
LinksUpTo links w l = Contains links l × (l.weight ≤ℤ w)

-- ---- the laws

-- a forest's links up to a weight join exactly what the list's links up to it do
abbrev pub ForestJoinsUpTo : Type 0
ForestJoinsUpTo =
    (links forest : List Link) → IsForestOf links forest
    → (w : ℤ) (u v : ℕ) → Joins (LinksUpTo links w) u v ↔ Joins (LinksUpTo forest w) u v

-- a forest's links below a key join exactly what the list's links below it do
abbrev pub ForestJoinsBelow : Type 0
ForestJoinsBelow =
    (links forest : List Link) → IsForestOf links forest
    → (l : Link) (u v : ℕ) → Joins (LinksBelow links l) u v ↔ Joins (LinksBelow forest l) u v
