use Rattle.std.proofs.Common.{take}
use Rattle.round_core.specs.OwnPicks.{AreLeastNumbers}
use Rattle.round_core.proofs.alone.count_leaving.Given as goal

abbrev pub invariant-loop-link : goal.invariant-loop-link
invariant-loop-link l = AreLeastNumbers l.labels (take l.link-index l.links) l.numbers
