use Rattle.std.proofs.Common.{◌≤◌, length, take, arith, rules, ap, pos, ◌+ℤ◌}
use Rattle.std.proofs.lemmas.Grind.{common_steps}
use Rattle.std.proofs.lemmas.Int.{ints}
use Rattle.std.proofs.lemmas.List.Sums.{fold_more}
use Rattle.links.specs.declared.links.Link.{Link}
use Rattle.links.proofs.Least.{sum_within, own_total}
use Rattle.links.proofs.forests.Forest.total.Goals as goal

pub overflow_add-total : goal.overflow_add-total
overflow_add-total g c =
    let so_far = sum_within (take c.loop-link.link-index c.as_slice-link-items.result.now) in
    let few : length (take c.loop-link.link-index c.as_slice-link-items.result.now) ≤ length c.as_slice-link-items.result.now = search (rules, arith) in
    let fits = c.link-item.result.weight_fits in
    omega (arith, ints, c.loop-link.invariant, so_far.above, so_far.below, few, fits, c.from-total.ensures, c.as_slice-link-items.type_inv)

pub loop-link-preserved : goal.loop-link-preserved
loop-link-preserved g c =
    let more = fold_more (λ sum l. sum +ℤ l.weight) (pos 0) c.as_slice-link-items.result.now c.loop-link.link-index c.link-item.result c.loop-link-test.true in
    let same = ap (λ (l : Link). l.weight) c.link-item.is in
    omega (arith, ints, more, same, c.loop-link.invariant, c.from-total.ensures, overflow_add-total g c)

pub returns-clause-total : goal.returns-clause-total
returns-clause-total g c = own_total c.args.self.now _ (rw (← c.self.view_is) c.self.invariant) (grind (arith, common_steps))
