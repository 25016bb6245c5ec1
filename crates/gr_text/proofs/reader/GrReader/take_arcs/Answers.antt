use Rattle.std.proofs.Common.{◌≡◌, ◌+◌, ◌≤◌, length, None, false, arith, rules}
use Rattle.gr_text.proofs.Pieces.{takes_lines}
use Rattle.gr_text.proofs.reader.GrReader.take_arcs.Goals as goal

pub invariant_of-self-2 : goal.invariant_of-self-2
invariant_of-self-2 g c = search arith

pub returns-clause-taken : goal.returns-clause-taken
returns-clause-taken g c = search (arith, takes_lines)
