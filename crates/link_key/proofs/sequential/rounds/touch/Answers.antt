use Rattle.std.proofs.Common.{◌≡◌, get_or, arith}
use Rattle.link_key.proofs.Filling.{zeros_two, zeros_two_fewer}
use Rattle.link_key.proofs.sequential.rounds.touch.Goals as goal
use Rattle.link_key.proofs.sequential.rounds.touch.Goals.{then-first-ne0-2, else-first-ne0-2+then-second-ne0-2, else-first-ne0-2+else-second-ne0-2}

pub returns-clause-fewer : goal.returns-clause-fewer
returns-clause-fewer c _ = search (arith, then-first-ne0-2, zeros_two, else-first-ne0-2+then-second-ne0-2, else-first-ne0-2+else-second-ne0-2, zeros_two_fewer)
