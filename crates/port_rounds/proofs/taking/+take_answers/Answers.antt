use Rattle.std.proofs.Common.{rules, arith}
use Rattle.port_rounds.specs.Lanes.{kept_answers}
use Rattle.port_rounds.specs.Taking.{TakesAll}
use Rattle.port_rounds.proofs.Takes.{taken_append, all_kept_cons}
use Rattle.port_rounds.proofs.taking.+take_answers.Goals as goal

pub take_answers_of-requires : goal.take_answers_of-requires
take_answers_of-requires g t c = search (arith, all_kept_cons, taken_append)

pub take_answers-requires : goal.take_answers-requires
take_answers-requires g t c κs within = search (arith, all_kept_cons, taken_append)
