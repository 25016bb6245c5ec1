use Rattle.std.proofs.Common.{arith}
use Rattle.shard_scans.proofs.Numbering.{number_is}
use Rattle.shard_scans.proofs.numbers.Numbers.number.Goals as goal

pub overflow_add-result : goal.overflow_add-result
overflow_add-result g c =
    omega (arith, number_is c.self.inside.words.items c.args.self.now c.args.label c.index-word.result.now c.self.view_is c.requires.counted c.requires.in_words c.index-word.ensures)

pub overflow_add-result-2 : goal.overflow_add-result-2
overflow_add-result-2 g c =
    omega (arith, number_is c.self.inside.words.items c.args.self.now c.args.label c.index-word.result.now c.self.view_is c.requires.counted c.requires.in_words c.index-word.ensures)

pub returns : goal.returns
returns g c = (number_is c.self.inside.words.items c.args.self.now c.args.label c.index-word.result.now c.self.view_is c.requires.counted c.requires.in_words c.index-word.ensures).0
