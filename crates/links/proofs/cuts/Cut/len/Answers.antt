use Rattle.std.proofs.Common.{arith}
use Rattle.links.proofs.Spans.{shards_length}
use Rattle.links.proofs.cuts.Cut.len.Goals as goal

pub returns-clause-shards : goal.returns-clause-shards
returns-clause-shards g c = search (arith, shards_length)
