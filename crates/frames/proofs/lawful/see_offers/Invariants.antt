use Rattle.std.proofs.Common.{ℕ, ◌<◌, get_or}
use Rattle.links.specs.Offers.{Offer}
use Rattle.frames.specs.Lawful.{IsU32}
use Rattle.frames.proofs.lawful.see_offers.Given as goal

abbrev pub invariant-loop-offer : goal.invariant-loop-offer
invariant-loop-offer l = (k : ℕ) (d : Offer) → k < l.offer-index → IsU32 (get_or l.offers k d).0 × IsU32 (get_or l.offers k d).1
