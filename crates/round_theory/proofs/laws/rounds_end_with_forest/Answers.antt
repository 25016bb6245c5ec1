use Rattle.round_theory.proofs.Rounds.{taken_listed, rounds_alike, round_by_round, rounds_in_forest, adds_nothing, one_number_of_rounds, forest_from_then_on}
use Rattle.round_theory.proofs.laws.rounds_end_with_forest.Goals as goal

pub returns : goal.returns
returns c = record {
  in_forest = rounds_in_forest;
  finite = λ n links i. ((taken_listed n links i).members, (taken_listed n links i).same);
  set_alone = rounds_alike;
  next = round_by_round;
  adds_nothing = adds_nothing;
  one_number = one_number_of_rounds;
  forest = forest_from_then_on;
}
