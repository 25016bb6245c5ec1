use Rattle.std.proofs.Common.{leb-true, le-leb, arith}
use Rattle.round_core.proofs.OwnPicks.{counted_by}
use Rattle.round_core.proofs.tally.is_counted.Goals as goal

pub returns-then-numbers-low : goal.returns-then-numbers-low
returns-then-numbers-low c = search (arith, counted_by, leb-true, le-leb)

pub returns-else-numbers-low : goal.returns-else-numbers-low
returns-else-numbers-low c =
    let decides =
    counted_by c.args.labels.now c.args.numbers.now c.args.link c.key_number-number.result c.of.result c.of-2.result
    c.requires.ends c.requires.leaving c.of.ensures.label c.of-2.ensures.label c.key_number-number.ensures in
    (λ tested. let le = leb-true _ _ tested in absurd (omega (arith, le, c.if-numbers-low.false)), λ counted. le-leb _ _ (decides.1 counted).0)
