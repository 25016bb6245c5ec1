use Rattle.round_core.proofs.OwnPicks.{placed_of, taken_are_least}
use Rattle.round_core.proofs.tally.count_by_threads.Goals as goal

pub take_by_parts-requires-clause-placed : goal.take_by_parts-requires-clause-placed
take_by_parts-requires-clause-placed g c κs within = placed_of c.args.cut.now c.args.labels.now c.args.answers.now c.requires.into.can

pub returns-then-are_counted : goal.returns-then-are_counted
returns-then-are_counted g c =
    taken_are_least c.args.cut.now c.args.labels.now c.args.answers.now c.args.numbers.now c.take_by_parts.new.numbers
    c.requires.into.can c.requires.into.each_vertex c.take_by_parts.auto.numbers c.requires.into.none
    c.take_by_parts.ensures (c.are_counted.ensures.0 c.if-are_counted.true)
