use Rattle.std.proofs.Common.{length, sym, arith}
use Rattle.links.proofs.Spans.{allowed, shards_joined}
use Rattle.links.proofs.cuts.Cut.links.Goals as goal

pub returns : goal.returns
returns g c = search (arith, shards_joined, allowed)
