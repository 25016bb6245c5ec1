use Rattle.std.proofs.Common.{◌<◌, ◌≤◌, length, rules, refl, subst, arith}
use Rattle.std.specs.Prelude.{Contains, IfSome}
use Rattle.link_key.specs.Components.{AreLeastVertices}
use Rattle.plain_run.proofs.Sieving.{sieve_of_lightest}
use Rattle.plain_run.proofs.sieve.Sieve.of_lightest.Goals as goal

pub returns-in-Some : goal.returns-in-Some
returns-in-Some g c =
    let count = c.min-count.result in
    let some : 0 < count = search (rules, arith) in
    let in_range : count ≤ length c.args.forest.now = search rules in
    let least = subst (λ found. IfSome found (AreLeastVertices c.args.n (Contains c.in_ok-light.light.items))) c.in-Some.is c.in_ok-labels.ensures.least in
    record {
      count = refl;
      joined = sieve_of_lightest c.args.n count c.args.forest.now _ c.in-Some.labels some in_range c.requires.ascending c.index-forest-count.is (rw c.in_ok-light.ensures.items at least);
    }
