use Rattle.std.proofs.Common.{◌≡◌, subst, arith}
use Rattle.std.specs.Prelude.{◌↔◌, List, Option, All}
use Rattle.links.specs.declared.links.Link.{Link}
use Rattle.round_core.specs.PickNumbers.{no_pick}
use Rattle.round_core.specs.Picks.{AreNoPicks}
use Rattle.round_core.proofs.PickNumbers.{none_where_no_picks}
use Rattle.round_core.proofs.picks.Picks.is_empty.Goals as goal

pub returns : goal.returns
returns g c = search (arith, none_where_no_picks)
