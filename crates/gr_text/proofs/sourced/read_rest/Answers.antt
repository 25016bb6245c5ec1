use Rattle.std.proofs.Common.{arith}
use Rattle.gr_text.proofs.Sourcing.{read_whole}
use Rattle.gr_text.proofs.sourced.read_rest.Goals as goal

pub returns-in-Ok : goal.returns-in-Ok
returns-in-Ok g c = λ before first.
    let read = c.in-Ok.ensures in
    read_whole _ _ _ _ _ before _ (read.followed before first) read.enough (omega (arith, c.requires.limit)) read.keeps.clean read.limit c.finish.ensures.outcome_but
