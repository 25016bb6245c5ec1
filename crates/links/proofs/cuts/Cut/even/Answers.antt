use Rattle.std.proofs.Common.{length}
use Rattle.links.proofs.Spans.{AreEven, even_limits, even_allowed, even_cut, not_refused, shards_joined}
use Rattle.links.proofs.cuts.Cut.even.Goals as goal

pub invariant_of-result : goal.invariant_of-result
invariant_of-result g c =
    let limits = even_limits (length c.args.links.now) c.args.count c.in_ok-check_even.ensures.allowed in
    let are : AreEven (length c.args.links.now) c.args.count c.in_ok-places.places.items = record { some = limits.0; number = c.in_ok-places.ensures.number; each = c.in_ok-places.ensures.each } in
    not_refused (length c.args.links.now) c.in_ok-places.places.items (even_allowed (length c.args.links.now) c.args.count c.in_ok-places.places.items are limits.1 limits.2)

pub returns-clause-even : goal.returns-clause-even
returns-clause-even g c =
    let limits = even_limits (length c.args.links.now) c.args.count c.in_ok-check_even.ensures.allowed in
    let are : AreEven (length c.args.links.now) c.args.count c.in_ok-places.places.items = record { some = limits.0; number = c.in_ok-places.ensures.number; each = c.in_ok-places.ensures.each } in
    even_cut c.args.links.now c.args.count c.in_ok-places.places.items are

pub returns-clause-whole : goal.returns-clause-whole
returns-clause-whole g c =
    let limits = even_limits (length c.args.links.now) c.args.count c.in_ok-check_even.ensures.allowed in
    let are : AreEven (length c.args.links.now) c.args.count c.in_ok-places.places.items = record { some = limits.0; number = c.in_ok-places.ensures.number; each = c.in_ok-places.ensures.each } in
    shards_joined c.args.links.now c.in_ok-places.places.items (even_allowed (length c.args.links.now) c.args.count c.in_ok-places.places.items are limits.1 limits.2).in_order
