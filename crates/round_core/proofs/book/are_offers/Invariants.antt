use Rattle.std.proofs.Common.{◌≡◌, take, true}
use Rattle.std.specs.List.{list_all}
use Rattle.round_core.specs.BookValue.{is_offer}
use Rattle.round_core.proofs.book.are_offers.Given as goal

abbrev pub invariant-loop-pair : goal.invariant-loop-pair
invariant-loop-pair l = list_all (is_offer l.links l.labels) (take l.pair-index l.pairs) ≡ true
