-- What leaves a component, and what is offered and picked for it.
use Rattle.std.specs.Prelude.{◌≡◌, ◌≢◌, ℕ, ◌<◌, ◌⊎◌, ◌↔◌, List, length, slice_index_or, All, Contains, Any}
use Rattle.links.specs.declared.links.Link.{Link}
use Rattle.links.specs.Link.{IsBelow}
use Rattle.links.specs.Offers.{Offer, AreOffers}
use Rattle.round_theory.specs.LinkSet.{LinkSet}
use Rattle.links.specs.Labels.{label_of}

-- the link leaves label c: exactly one of its endpoints has that label
abbrev pub Leaves : List ℕ → Link → ℕ → Type 0
Leaves labels l c =
    ((label_of labels l.low ≡ c) × (label_of labels l.high ≢ c))
    ⊎ ((label_of labels l.low ≢ c) × (label_of labels l.high ≡ c))

-- l is the least of the links of the set that leave label c
pub record IsLeastLeaving (labels : List ℕ) (S : LinkSet) (c : ℕ) (l : Link) : Type 0 where
  pub member : S l
  pub leaves : Leaves labels l c
  pub least : (m : Link) → S m → Leaves labels m c → ¬ (IsBelow m l)

-- no link of the set leaves label c
abbrev pub NoneLeaves : List ℕ → LinkSet → ℕ → Type 0
NoneLeaves labels S c = (l : Link) → S l → ¬ (Leaves labels l c)

-- k is the lesser of the links l and m
abbrev pub IsLesser : Link → Link → Link → Type 0
IsLesser l m k = ((k ≡ l) × ¬ (IsBelow m l)) ⊎ ((k ≡ m) × ¬ (IsBelow l m))

-- the picks of a set of links under the labels: for each label, the least link of the set that leaves it
abbrev pub IsPick : List ℕ → LinkSet → LinkSet
IsPick labels S l = (c : ℕ) × IsLeastLeaving labels S c l

-- l is in the list at index i, and at no lower index
pub record IsFirstPlace (links : List Link) (l : Link) (i : ℕ) : Type 0 where
  pub within : i < length links
  pub here : slice_index_or links i l ≡ l
  pub first : (k : ℕ) → k < i → slice_index_or links k l ≢ l

-- i is the first index of the least link of the list that leaves label c
abbrev pub IsLightOffer : List Link → List ℕ → ℕ → ℕ → Type 0
IsLightOffer links labels c i = (l : Link) × IsLeastLeaving labels (Contains links) c l × IsFirstPlace links l i

-- the light offers of a list under the labels: one per label that a link leaves, labels ascending
pub record AreLightOffers (links : List Link) (labels : List ℕ) (offers : List Offer) : Type 0 where
  pub ascending : AreOffers offers
  pub exact : (c i : ℕ) → Contains offers (c, i) ↔ IsLightOffer links labels c i

-- the offer's index is in range, and the link at that index leaves the offer's label
pub record OffersLeaving (links : List Link) (labels : List ℕ) (offer : Offer) : Type 0 where
  pub within : offer.1 < length links
  pub leaves : (l : Link) → slice_index_or links offer.1 l ≡ l → Leaves labels l offer.0

-- a hearing: a shard, and the offers that were received for it
pub record Hearing : Type 0 where
  pub shard : List Link
  pub offers : List Offer

-- one of the offers names the link: the link is in the shard at the offer's index
pub record Names (h : Hearing) (l : Link) : Type 0 where
  pub label : ℕ
  pub place : ℕ
  pub offered : Contains h.offers (label, place)
  pub within : place < length h.shard
  pub here : slice_index_or h.shard place l ≡ l

-- the links that the offers of some shard name
abbrev pub IsNamed : List Hearing → LinkSet
IsNamed heard l = Any (λ h. Names h l) heard

-- the shards have the links of the list, and no others
abbrev pub HaveLinksOf : List Hearing → List Link → Type 0
HaveLinksOf heard links = (l : Link) → Contains links l ↔ Any (λ h. Contains h.shard l) heard

-- the offers received for each shard are its light offers
abbrev pub AreAllLight : List ℕ → List Hearing → Type 0
AreAllLight labels heard = All (λ h. AreLightOffers h.shard labels h.offers) heard
