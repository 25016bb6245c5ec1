use Rattle.std.proofs.Common.{take}
use Rattle.round_core.specs.BookValue.{all_named}
use Rattle.round_core.specs.OwnPicks.{AreLeastNumbers}
use Rattle.round_core.proofs.tally.count_answers.Given as goal

abbrev pub invariant-loop-answer : goal.invariant-loop-answer
invariant-loop-answer g l = AreLeastNumbers l.labels (all_named l.cut (take l.answer-index l.answers)) l.numbers
