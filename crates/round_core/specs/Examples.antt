-- A worked example for each law of a solver: three vertices with a link of the same weight between any two.
use Rattle.std.specs.Prelude.{◌≡◌, ℕ, pos, List, [], ◌∷◌, Option, Some, None}
use Rattle.std.proofs.Common.{lit≤, lit<}
use Rattle.links.specs.declared.links.Link.{Link}
use Rattle.links.specs.Forest.{IsForestOf}
use Rattle.round_core.specs.Solver.{Progress, IsStepFault, missed, HasRoundsOf, IsRoundOf}
use Rattle.round_core.specs.declared.solver.Turn.TheVariants.{Merged, Done}
use Rattle.round_core.specs.declared.solver.SolveFault.{SolveFault}
use Rattle.round_core.specs.declared.solver.SolveFault.TheVariants.{Memory}

abbrev pub link_1_2 : Link
link_1_2 = record { weight = pos 5; low = 1; high = 2; from_one = lit≤ tt; ascending = lit< tt; in_limit = lit≤ tt; weight_fits = record { sfits = lit< tt } }

abbrev pub link_2_3 : Link
link_2_3 = record { weight = pos 5; low = 2; high = 3; from_one = lit≤ tt; ascending = lit< tt; in_limit = lit≤ tt; weight_fits = record { sfits = lit< tt } }

abbrev pub link_1_3 : Link
link_1_3 = record { weight = pos 5; low = 1; high = 3; from_one = lit≤ tt; ascending = lit< tt; in_limit = lit≤ tt; weight_fits = record { sfits = lit< tt } }

abbrev pub triangle : List Link
triangle = link_1_2 ∷ (link_2_3 ∷ (link_1_3 ∷ []))

abbrev pub two_sides : List Link
two_sides = link_1_2 ∷ (link_1_3 ∷ [])

abbrev pub apart : List ℕ
apart = 1 ∷ (2 ∷ (3 ∷ []))

abbrev pub at_start : Progress
at_start = record { labels = apart; taken = []; rounds = 0 }

-- the least links that leave the vertices
abbrev pub first_picks : List (Option Link)
first_picks = Some link_1_2 ∷ (Some link_1_2 ∷ (Some link_1_3 ∷ []))

-- after the first round all three are one component
abbrev pub after_first : Progress
after_first = record { labels = 1 ∷ (1 ∷ (1 ∷ [])); taken = two_sides; rounds = 1 }

-- no link leaves it
abbrev pub last_picks : List (Option Link)
last_picks = None ∷ (None ∷ (None ∷ []))

abbrev pub TriangleBeforeRounds : Type 0
TriangleBeforeRounds = HasRoundsOf triangle at_start

-- the first step takes two links
abbrev pub FirstStepIsRound : Type 0
FirstStepIsRound = IsRoundOf triangle at_start after_first (Merged 2)

-- and isn't past the bound
abbrev pub FirstStepIsInTime : Type 0
FirstStepIsInTime = (fault : SolveFault) → IsStepFault at_start first_picks fault → fault ≡ Memory

-- the second takes none, and then all merging rounds are done
abbrev pub SecondStepIsLast : Type 0
SecondStepIsLast = IsRoundOf triangle after_first after_first Done

abbrev pub TriangleMissesNone : Type 0
TriangleMissesNone = missed after_first.labels triangle ≡ None

abbrev pub TwoSidesAreItsForest : Type 0
TwoSidesAreItsForest = IsForestOf triangle two_sides
