use Rattle.std.proofs.Common.{◌≡◌, drop}
use Rattle.std.specs.List.{list_all}
use Rattle.links.specs.Cut.{spans_from, is_in_order}
use Rattle.links.proofs.cuts.are_in_order.Given as goal

abbrev pub invariant-loop-place : goal.invariant-loop-place
invariant-loop-place l = list_all is_in_order (spans_from l.from l.length (drop l.place-index l.places)) ≡ list_all is_in_order (spans_from 0 l.length l.places)
