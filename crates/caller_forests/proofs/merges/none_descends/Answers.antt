-- It is enough that neighbours are in order, because the order is transitive.
use Rattle.std.proofs.Common.{rules, arith, Bool, int_le}
use Rattle.std.specs.Int.Signed.{◌≤ℤ◌}
use Rattle.std.proofs.lemmas.Int.{ints}
use Rattle.std.proofs.lemmas.List.Sorted.{answers_always}
use Rattle.links.proofs.Neighbours.{all_pairs_by_neighbours}
use Rattle.caller_forests.specs.declared.given.GivenLink.{GivenLink}
use Rattle.caller_forests.proofs.merges.none_descends.Goals as goal

-- the test for the order of two edges
abbrev weighs_no_more : GivenLink → GivenLink → Bool
weighs_no_more l m = int_le l.weight m.weight

pub returns : goal.returns
returns c =
    let answer = c.is_sorted_by.ensures.cases weighs_no_more (answers_always _ _ _ (λ f a r f' called. search rules)) in
    all_pairs_by_neighbours (λ (l m : GivenLink). l.weight ≤ℤ m.weight) (λ l m k lm mk. omega (arith, ints, lm, mk)) weighs_no_more
    (λ l m. (λ test. grind (arith, ints, test), λ no_more. grind (arith, ints, no_more))) c.args.links.now c.is_sorted_by.result answer
