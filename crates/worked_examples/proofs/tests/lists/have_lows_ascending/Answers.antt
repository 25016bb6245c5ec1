-- It is enough to compare neighbours, because the order is transitive. The links are distinct, because no link is below
-- itself.
use Rattle.std.proofs.Common.{rules, ◌<◌, lt_trans, nat_lt, Bool, ap, arith}
use Rattle.std.proofs.lemmas.List.Sorted.{answers_always}
use Rattle.links.specs.declared.links.Link.{Link}
use Rattle.links.proofs.Neighbours.{all_pairs_by_neighbours}
use Rattle.worked_examples.proofs.tests.lists.have_lows_ascending.Goals as goal

-- the test that orders two links by their lower endpoints
abbrev is_below : Link → Link → Bool
is_below l m = nat_lt l.low m.low

pub returns : goal.returns
returns c is i j d lt j_in same =
    let answer = c.is_sorted_by.ensures.cases is_below (answers_always _ _ _ (λ f a r f' called. search rules)) in
    let ascend = all_pairs_by_neighbours (λ (l m : Link). l.low < m.low) (λ k l m. lt_trans) is_below (λ l m. search rules) c.args.links.now c.is_sorted_by.result answer in
    let below = ascend.0 is i j d lt j_in in
    let lows = ap (λ (l : Link). l.low) same in
    omega (arith, below, lows)
