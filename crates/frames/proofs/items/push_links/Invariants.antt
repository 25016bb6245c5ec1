-- The links that the bytes so far encode were appended.
use Rattle.std.proofs.Common.{◌≡◌, ◌++◌, ◌%◌, List, length}
use Rattle.std.specs.List.{flat_map}
use Rattle.links.specs.declared.links.Link.{Link}
use Rattle.frames.specs.Spellings.{spelled_in, size_in, FitIn}
use Rattle.frames.proofs.items.push_links.Given as goal

abbrev pub invariant-loop-rest : goal.invariant-loop-rest
invariant-loop-rest g l = record {
  pushed : (more : List Link) × (l.links.items ≡ l.initial.links.items ++ more) × (flat_map (spelled_in l.spelling) more ++ l.rest ≡ l.bytes) × FitIn l.spelling more;
  whole : length l.rest % size_in l.spelling ≡ 0;
}

abbrev pub decreases-loop-rest : goal.decreases-loop-rest
decreases-loop-rest g l = length l.rest
