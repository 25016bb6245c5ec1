use Rattle.std.proofs.Common.{take}
use Rattle.round_core.specs.BookValue.{named_links}
use Rattle.round_core.specs.OwnPicks.{Counts}
use Rattle.round_core.proofs.tally.count_all.Given as goal

abbrev pub invariant-loop-pair : goal.invariant-loop-pair
invariant-loop-pair l = Counts l.labels (named_links l.links (take l.pair-index l.pairs)) l.initial.numbers l.numbers
