use Rattle.std.proofs.Common.{refl}
use Rattle.round_core.specs.Solver.{HasRoundsOf}
use Rattle.round_core.specs.Examples.{triangle, at_start, first_picks, after_first, last_picks, FirstStepIsRound}
use Rattle.round_core.specs.declared.solver.Turn.TheVariants.{Merged, Done}
use Rattle.round_core.proofs.Worked.{triangle_ends, starts, start_holds, first_are, last_are, last_none, first_merged, first_holds}
use Rattle.round_core.proofs.examples.rounds_of_triangle.Goals as goal

before : goal.After-step_by_least_is_round → HasRoundsOf triangle at_start
before c = c.start_is_before_rounds.ensures triangle 3 at_start starts

first : goal.After-step_by_least_is_round → FirstStepIsRound
first c = c.step_by_least_is_round.ensures.round triangle at_start first_picks start_holds triangle_ends (before c) first_are after_first (Merged 2) first_merged

pub returns-clause-first : goal.returns-clause-first
returns-clause-first c = first c

pub returns-clause-in_time : goal.returns-clause-in_time
returns-clause-in_time c = c.step_by_least_is_round.ensures.in_time triangle at_start first_picks start_holds triangle_ends (before c) first_are

pub returns-clause-last : goal.returns-clause-last
returns-clause-last c = c.step_by_least_is_round.ensures.round triangle after_first last_picks first_holds triangle_ends (first c).right last_are after_first Done (last_none, refl)
