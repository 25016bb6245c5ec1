use Rattle.std.proofs.Common.{inl}
use Rattle.round_core.proofs.PickNumbers.{none_where_no_picks}
use Rattle.round_core.proofs.picks.Picks.none_over.Goals as goal

pub returns-clause-none : goal.returns-clause-none
returns-clause-none g c =
    let none = c.in_ok-fill_up.ensures.none in
    (none_where_no_picks c.fill_up.new.numbers.items (λ i d lt. inl (none i d lt))).0 none
