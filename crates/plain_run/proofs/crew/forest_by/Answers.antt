use Rattle.std.proofs.Common.{sym, subst}
use Rattle.links.specs.Forest.{IsForestOf}
use Rattle.plain_run.proofs.crew.forest_by.Goals as goal

pub returns-clause-forest : goal.returns-clause-forest
returns-clause-forest g c = subst (IsForestOf c.args.links.items) (sym c.of_ascending.ensures) c.in_ok-kept.ensures.forest
