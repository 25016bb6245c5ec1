use Rattle.std.proofs.Common.{rules}
use Rattle.shard_scans.specs.Live.{IsGreatestEnd}
use Rattle.shard_scans.proofs.kept_shard.KeptShard.new.Goals as goal

pub invariant_of-result : goal.invariant_of-result
invariant_of-result g c =
    let greatest : IsGreatestEnd c.args.links.items c.greatest_end-greatest.result = rw c.as_slice.ensures.value at c.greatest_end-greatest.ensures in
    (search rules, greatest, tt)
