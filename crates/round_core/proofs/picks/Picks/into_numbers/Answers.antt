use Rattle.std.proofs.Common.{sym, subst}
use Rattle.std.specs.Prelude.{List, Option}
use Rattle.links.specs.declared.links.Link.{Link}
use Rattle.round_core.specs.Picks.{AreNoPicks}
use Rattle.round_core.proofs.PickNumbers.{none_where_no_picks}
use Rattle.round_core.proofs.picks.Picks.into_numbers.Goals as goal

pub returns-clause-none : goal.returns-clause-none
returns-clause-none g c = (none_where_no_picks c.self.inside.numbers.items c.self.invariant).1 (subst (λ (ps : List (Option Link)). AreNoPicks ps) (sym c.self.view_is) c.requires)
