use Rattle.std.proofs.Common.{[], subst, arith}
use Rattle.gr_text.specs.Kept.{IsKeptReadOf}
use Rattle.gr_text.proofs.Sourcing.{new_reader, nothing_fed}
use Rattle.gr_text.proofs.sourced.read_kept_upto.Goals as goal

pub read_rest-requires-clause-keeps : goal.read_rest-requires-clause-keeps
read_rest-requires-clause-keeps g c = new_reader g.K.Keep c.args.keeper.now c.new.result c.requires.keeper c.new.ensures.no_fault c.new.ensures.nothing

pub returns : goal.returns
returns g c = search (arith, nothing_fed)
