-- Offers: for a component, the index of a link in a shard.
use Rattle.std.specs.Prelude.{ℕ, ◌<◌, List, AllPairs}

-- a component, and the index of the link that is offered for it
abbrev pub Offer : Type 0
Offer = ℕ × ℕ

-- the components ascend strictly, so each has at most one offer
abbrev pub AreOffers : List Offer → Type 0
AreOffers offers = AllPairs (λ (a b : Offer). a.0 < b.0) offers
