use Rattle.shard_scans.proofs.Numbering.{number_has_place}
use Rattle.shard_scans.proofs.numbers.Numbers.name.Goals as goal

pub bounds-names-place : goal.bounds-names-place
bounds-names-place g c = rw c.number-number.ensures (number_has_place c.args.self.now c.args.names.now c.args.label c.requires.names c.requires.marked)

pub bounds-names-place-then-names-place : goal.bounds-names-place-then-names-place
bounds-names-place-then-names-place g c = rw c.number-number.ensures (number_has_place c.args.self.now c.args.names.now c.args.label c.requires.names c.requires.marked)
