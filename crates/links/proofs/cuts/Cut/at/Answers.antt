use Rattle.std.proofs.Common.{length, arith}
use Rattle.links.proofs.Spans.{allowed, shards_joined}
use Rattle.links.proofs.cuts.Cut.at.Goals as goal

pub returns-clause-whole : goal.returns-clause-whole
returns-clause-whole g c = search (arith, shards_joined, allowed)
