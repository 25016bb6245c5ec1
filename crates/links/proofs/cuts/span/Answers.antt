use Rattle.std.proofs.Common.{◌≤◌, ◌-◌, ◌∷◌, ◌++◌, [], get_or, arith}
use Rattle.std.proofs.lemmas.Bool.{leb-true}
use Rattle.limits.specs.declared.TheConstants.{MAX_SHARD_LINKS}
use Rattle.links.specs.Cut.{is_in_order, is_small}
use Rattle.links.proofs.Spans.{allowed, test_at, ends_within}
use Rattle.links.proofs.cuts.span.Goals as goal

pub returns-clause-in_order : goal.returns-clause-in_order
returns-clause-in_order c = search (arith, allowed, leb-true, test_at)

pub returns-clause-within : goal.returns-clause-within
returns-clause-within c = rw c.ends_at.ensures (ends_within 0 c.args.links c.args.places.now c.args.number (allowed c.args.links c.args.places.now c.requires.allowed).in_order c.requires.in_range)

pub returns-clause-small : goal.returns-clause-small
returns-clause-small c = search (arith, allowed, leb-true, test_at)
