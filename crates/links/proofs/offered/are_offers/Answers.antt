-- Comparing neighbours is enough, since the order is transitive.
use Rattle.std.proofs.Common.{rules, ◌<◌, lt_trans, nat_lt, Bool}
use Rattle.std.proofs.lemmas.List.Sorted.{answers_always}
use Rattle.links.specs.Offers.{Offer}
use Rattle.links.proofs.Neighbours.{all_pairs_by_neighbours}
use Rattle.links.proofs.offered.are_offers.Goals as goal

-- the test for the order of two offers
abbrev is_below : Offer → Offer → Bool
is_below a b = nat_lt a.0 b.0

pub returns : goal.returns
returns c =
    let answer = c.is_sorted_by.ensures.cases is_below (answers_always _ _ _ (λ f a r f' called. search rules)) in
    all_pairs_by_neighbours (λ (a b : Offer). a.0 < b.0) (λ a b c. lt_trans) is_below (λ a b. search rules) c.args.pairs.now c.is_sorted_by.result answer
