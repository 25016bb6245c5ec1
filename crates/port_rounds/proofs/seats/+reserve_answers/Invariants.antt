use Rattle.std.proofs.Common.{length}
use Rattle.port_rounds.proofs.seats.+reserve_answers.Given as goal

abbrev pub decreases-reserve_answers : goal.decreases-reserve_answers
decreases-reserve_answers g l = length l.lanes.now
