use Rattle.std.proofs.Common.{length}
use Rattle.port_rounds.proofs.taking.+take_answers.Given as goal

abbrev pub decreases-take_answers : goal.decreases-take_answers
decreases-take_answers g l = length l.lanes.now
