use Rattle.std.proofs.Common.{◌≡◌, ◌<◌, ◌≤◌, ◌-◌, length, sym, ap, arith}
use Rattle.links.specs.Cut.{shards_at, links_at}
use Rattle.std.specs.List.{slice_range}
use Rattle.links.proofs.Spans.{shards_length, shard_from, part_few}
use Rattle.links.proofs.cuts.Cut.shard.Goals as goal

pub span-from-requires-clause-in_range : goal.span-from-requires-clause-in_range
span-from-requires-clause-in_range g c = search (arith, shards_length)

pub returns-clause-links : goal.returns-clause-links
returns-clause-links g c = search (arith, shards_length, shard_from)

pub returns-clause-small : goal.returns-clause-small
returns-clause-small g c = search (arith, shards_length, shard_from, part_few)
