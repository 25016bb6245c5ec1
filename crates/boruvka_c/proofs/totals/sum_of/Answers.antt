use Rattle.std.proofs.Common.{◌<◌, ◌^◌, ◌+ℤ◌, ℤ, pos, length, get_or, w64, arith, rules}
use mir.Val.{SFits}
use Rattle.std.proofs.lemmas.Int.{ints}
use Rattle.std.proofs.lemmas.List.Sums.{fold_more}
use Rattle.caller_forests.specs.declared.given.GivenLink.{GivenLink}
use Rattle.boruvka_c.proofs.totals.sum_of.Goals as goal

pub loop-link-preserved : goal.loop-link-preserved
loop-link-preserved c =
    let l = c.loop-link in
    let links = c.args.links.now in
    let d : GivenLink = record { weight = pos 0; low = 0; high = 0 } in
    let lt = c.loop-link-test.true in
    let more = fold_more (λ (sum : ℤ) (g : GivenLink). sum +ℤ g.weight) (pos 0) links l.link-index d lt in
    let fits : SFits w64 (get_or links l.link-index d).weight = search rules in
    let long : length links < 2 ^ 64 = search rules in
    let is = c.from-sum.ensures in
    let sum = l.invariant.sum in
    let above = l.invariant.above in
    let below = l.invariant.below in
    record {
      sum = omega (arith, ints, more, fits, long, lt, is, sum, above, below);
      above = omega (arith, ints, fits, long, lt, is, above, below);
      below = omega (arith, ints, fits, long, lt, is, above, below);
    }
