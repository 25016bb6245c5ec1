-- The offers that the bytes so far encode were appended.
use Rattle.std.proofs.Common.{◌≡◌, ◌++◌, ◌%◌, List, length, All}
use Rattle.std.specs.List.{flat_map}
use Rattle.links.specs.Offers.{Offer}
use Rattle.frames.specs.FrameText.{offer_text}
use Rattle.frames.specs.Lawful.{IsU32}
use Rattle.frames.proofs.items.push_offers.Given as goal

abbrev pub invariant-loop-rest : goal.invariant-loop-rest
invariant-loop-rest g l = record {
  pushed : (more : List Offer) × (l.offers.items ≡ l.initial.offers.items ++ more) × (flat_map offer_text more ++ l.rest ≡ l.bytes) × All (λ o. IsU32 o.0 × IsU32 o.1) more;
  whole : length l.rest % 8 ≡ 0;
}

abbrev pub decreases-loop-rest : goal.decreases-loop-rest
decreases-loop-rest g l = length l.rest
