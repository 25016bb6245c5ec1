-- The picks of a round: for each label, the least of the offered links that leave it.
use Rattle.std.specs.Prelude.{◌≡◌, ℕ, ◌+◌, ◌-◌, ◌≤◌, List, length, All, Contains, Option, Some, None, slice_index_or, MatchOption}
use Rattle.links.specs.declared.links.Link.{Link}
use Rattle.round_theory.specs.LinkSet.{LinkSet}
use Rattle.round_theory.specs.Labelling.{IsVertex}
use Rattle.round_theory.specs.Offers.{IsLeastLeaving, NoneLeaves, Hearing, IsNamed}

-- the pick of label `c`: the picks are in the order of the vertices, which are numbered from 1
abbrev pub pick_of : List (Option Link) → ℕ → Option Link
pick_of picks c = slice_index_or picks (c - 1) None

abbrev pub Picked : List (Option Link) → LinkSet
Picked picks l = Contains picks (Some l)

-- the pick is the least link of the set that leaves label `c`, and there is none exactly if no link of the set does
abbrev pub IsPickOf : List ℕ → LinkSet → ℕ → Option Link → Type 0
IsPickOf labels S c pick = MatchOption pick (NoneLeaves labels S c) (λ l. IsLeastLeaving labels S c l)

-- the picks of a set of links under the labels
pub record ArePicks (labels : List ℕ) (S : LinkSet) (picks : List (Option Link)) : Type 0 where
  pub each_vertex : length picks ≡ length labels
  pub ends : (l : Link) → Picked picks l → l.high ≤ length labels
  pub least : (c : ℕ) → IsVertex (length labels) c → IsPickOf labels S c (pick_of picks c)

-- the picks of any answers that were heard
abbrev pub ArePicksOfHearings : List ℕ → List (Option Link) → Type 0
ArePicksOfHearings labels picks = (heard : List Hearing) × ArePicks labels (IsNamed heard) picks

abbrev pub AreNoPicks : List (Option Link) → Type 0
AreNoPicks picks = All (λ pick. pick ≡ None) picks

-- no label other than these has a pick
abbrev pub HaveAllPicks : List (Option Link) → List ℕ → Type 0
HaveAllPicks picks labels = (i : ℕ) (l : Link) → slice_index_or picks i None ≡ Some l → Contains labels (i + 1)
