-- What a solver reaches if the picks of each round are the least links of a whole list that leave each component.
use Rattle.std.specs.Prelude.{◌≡◌, ℕ, ◌↔◌, List, Contains, Option, None}
use Rattle.links.specs.declared.links.Link.{Link}
use Rattle.links.specs.Link.{EndsUpTo}
use Rattle.links.specs.Forest.{IsForestOf}
use Rattle.round_theory.specs.Rounds.{IsMergingRounds}
use Rattle.round_core.specs.Picks.{ArePicks}
use Rattle.round_core.specs.Solver.{Progress, vertices, IsProgress, IsAtStart, IsTurn, IsStepFault, missed, IsFinished, HasRoundsOf, IsRoundOf}
use Rattle.round_core.specs.declared.solver.Turn.{Turn}
use Rattle.round_core.specs.declared.solver.SolveFault.{SolveFault}
use Rattle.round_core.specs.declared.solver.SolveFault.TheVariants.{Memory}

-- at the start no link is taken, as after no rounds, whatever the list
abbrev pub StartIsBeforeRounds : Type 0
StartIsBeforeRounds = (links : List Link) (n : ℕ) (p : Progress) → IsAtStart n p → HasRoundsOf links p

-- a step by the least links of the list is one more round over it, or all merging rounds are done
abbrev pub StepByLeastIsRound : Type 0
StepByLeastIsRound =
    (links : List Link) (old : Progress) (picks : List (Option Link)) → IsProgress old → EndsUpTo (vertices old) links
    → HasRoundsOf links old → ArePicks old.labels (Contains links) picks
    → (new : Progress) (turn : Turn) → IsTurn picks old new turn → IsRoundOf links old new turn

-- such a step is never past the bound, so it fails only for lack of memory
abbrev pub StepByLeastIsInTime : Type 0
StepByLeastIsInTime =
    (links : List Link) (old : Progress) (picks : List (Option Link)) → IsProgress old → EndsUpTo (vertices old) links
    → HasRoundsOf links old → ArePicks old.labels (Contains links) picks
    → (fault : SolveFault) → IsStepFault old picks fault → fault ≡ Memory

-- no link of the list is missed exactly if all merging rounds over it are done
abbrev pub NoneMissedWhereAllRounds : Type 0
NoneMissedWhereAllRounds =
    (links : List Link) (p : Progress) → IsProgress p → EndsUpTo (vertices p) links → HasRoundsOf links p
    → (missed p.labels links ≡ None) ↔ IsMergingRounds (vertices p) links p.rounds

-- and then the finished links are the forest
abbrev pub FinishedIsForest : Type 0
FinishedIsForest =
    (links : List Link) (p : Progress) → HasRoundsOf links p → (forest : List Link) → IsFinished p links forest → IsForestOf links forest
