use Rattle.std.proofs.Common.{sym, ◌∙◌, arith}
use Rattle.round_core.proofs.PickNumbers.{number_at}
use Rattle.round_core.proofs.picks.Picks.of.Goals as goal

pub pick_of_number-requires : goal.pick_of_number-requires
pick_of_number-requires g c =
    (number_at c.self.inside.numbers.items c.args.self.now c.args.label c.index.result.now c.self.view_is c.self.invariant (c.requires.from_one, c.requires.to_n) c.index.ensures).0

pub returns : goal.returns
returns g c = search (arith, number_at)
