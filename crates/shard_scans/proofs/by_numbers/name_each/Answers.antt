use Rattle.std.proofs.Common.{◌<◌, length, get_or, ap, arith}
use Rattle.std.proofs.lemmas.List.{get_or_default}
use Rattle.std.proofs.lemmas.List.Edits.{map_over_more}
use Rattle.links.specs.Offers.{Offer}
use Rattle.shard_scans.specs.Numbers.{offered}
use Rattle.shard_scans.proofs.ByNumbers.{next_stands, all_over}
use Rattle.shard_scans.proofs.by_numbers.name_each.Goals as goal

pub loop-i-preserved : goal.loop-i-preserved
loop-i-preserved c =
    let pairs = c.loop-i.pairs in
    let i = c.loop-i.i in
    let default : Offer = (0, 0) in
    let x : Offer = get_or pairs i default in
    map_over_more (offered c.args.names.now) c.args.pairs.now pairs i x (omega (arith, c.loop-i-test.true, c.loop-i.auto.pairs)) c.loop-i.invariant
    (get_or_default pairs i default x (omega (arith, c.loop-i-test.true, c.loop-i.auto.pairs)))

pub bounds-names-number : goal.bounds-names-number
bounds-names-number c =
    let default : Offer = (0, 0) in
    let in_start : c.loop-i.i < length c.args.pairs.now = omega (arith, c.loop-i-test.true, c.loop-i.auto.pairs) in
    let vertex = c.requires c.loop-i.i default in_start in
    let x_is = ap (λ (o : Offer). o.0) (next_stands (offered c.args.names.now) c.args.pairs.now c.loop-i.pairs c.loop-i.i c.loop-i.invariant default in_start) in
    omega (arith, vertex.0, vertex.1, x_is)

pub returns : goal.returns
returns c = all_over (offered c.args.names.now) c.args.pairs.now c.loop-i.pairs c.loop-i.i c.loop-i.invariant (omega (arith, c.loop-i-test.false, c.loop-i.auto.pairs))
