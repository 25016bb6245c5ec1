use Rattle.boruvka.proofs.Joining.{adds_from}
use Rattle.boruvka.proofs.joined.add_source.Goals as goal

pub returns-clause-added : goal.returns-clause-added
returns-clause-added g c = adds_from _ _ _ c.add.result _ c.map_err.ensures.cases c.add.ensures.added
