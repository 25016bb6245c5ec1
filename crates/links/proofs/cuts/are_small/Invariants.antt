use Rattle.std.proofs.Common.{◌≡◌, drop}
use Rattle.std.specs.List.{list_all}
use Rattle.links.specs.Cut.{spans_from, is_small}
use Rattle.links.proofs.cuts.are_small.Given as goal

abbrev pub invariant-loop-place : goal.invariant-loop-place
invariant-loop-place l = list_all is_small (spans_from l.from l.length (drop l.place-index l.places)) ≡ list_all is_small (spans_from 0 l.length l.places)
