-- Borůvka's rounds.
use Rattle.std.specs.Prelude.{ℕ, zero, suc, ◌<◌, ◌⊎◌, List, Contains}
use Rattle.links.specs.declared.links.Link.{Link}
use Rattle.round_theory.specs.LinkSet.{LinkSet, SameLinks}
use Rattle.round_theory.specs.Labelling.{IsLabelling}
use Rattle.round_theory.specs.Offers.{IsPick}

-- what a round adds to the links taken: the picks of the list under the labelling by what is taken
abbrev pub AreRoundPicks : ℕ → List Link → List Link → List Link → Type 0
AreRoundPicks n links taken added =
    (labels : List ℕ) × IsLabelling n (Contains taken) labels × SameLinks (Contains added) (IsPick labels (Contains links))

-- the links taken after a number of rounds, at first none: each round adds the list's picks under the current labelling
abbrev pub TakenAfter : ℕ → List Link → ℕ → LinkSet
TakenAfter n links zero l = ⊥
TakenAfter n links (suc i) l =
    TakenAfter n links i l ⊎ ((labels : List ℕ) × IsLabelling n (TakenAfter n links i) labels × IsPick labels (Contains links) l)

-- the number of merging rounds: the first number of rounds after which the next round adds nothing
pub record IsMergingRounds (n : ℕ) (links : List Link) (r : ℕ) : Type 0 where
  pub still : SameLinks (TakenAfter n links (suc r)) (TakenAfter n links r)
  pub first : (k : ℕ) → k < r → ¬ (SameLinks (TakenAfter n links (suc k)) (TakenAfter n links k))
