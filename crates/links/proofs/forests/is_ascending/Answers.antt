-- Comparing neighbours is enough, since the order is transitive.
use Rattle.std.proofs.Common.{rules}
use Rattle.std.proofs.lemmas.List.Sorted.{answers_always}
use Rattle.links.proofs.Keys.{is_below, ascending_by_neighbours}
use Rattle.links.proofs.forests.is_ascending.Goals as goal

pub returns : goal.returns
returns c =
    let answer = c.is_sorted_by.ensures.cases is_below (answers_always _ _ _ (λ f a r f' called. search rules)) in
    ascending_by_neighbours c.args.links.now c.is_sorted_by.result answer
