-- The laws of the rounds, each a statement only about the definitions. A set of links is finite, so the laws give it by
-- a list: of its members, or of the hearings that name them.
use Rattle.std.specs.Prelude.{◌≡◌, ◌≢◌, ℕ, suc, ◌≤◌, max, ◌^◌, ◌⊎◌, ◌↔◌, List, [], ◌++◌, All, Contains, flat_map, IsPermutation}
use Rattle.limits.specs.declared.TheConstants.{MAX_VERTICES}
use Rattle.links.specs.declared.links.Link.{Link}
use Rattle.links.specs.Link.{EndsUpTo}
use Rattle.links.specs.Walk.{Joins}
use Rattle.links.specs.Forest.{IsForestLink}
use Rattle.round_theory.specs.LinkSet.{LinkSet, Either, IsPartOf, SameLinks, HasNoCycle, Spans}
use Rattle.links.specs.Labels.{label_of, AreLabels, AreApart}
use Rattle.links.specs.Offers.{Offer}
use Rattle.round_theory.specs.Labelling.{IsVertex, IsLabelling, JoinsOver, IsRelabelling}
use Rattle.round_theory.specs.Offers.{Leaves, IsLeastLeaving, NoneLeaves, IsLesser, IsPick, AreLightOffers, OffersLeaving, Hearing, IsNamed, HaveLinksOf, AreAllLight}
use Rattle.round_theory.specs.Rounds.{AreRoundPicks, TakenAfter, IsMergingRounds}

-- ---- a set of links has exactly one labelling

-- every set has a labelling
abbrev pub SetHasLabelling : Type 0
SetHasLabelling = (n : ℕ) (taken : List Link) → (labels : List ℕ) × IsLabelling n (Contains taken) labels

-- two labellings by the same set are equal
abbrev pub LabellingIsUnique : Type 0
LabellingIsUnique =
    (n : ℕ) (taken : List Link) (a b : List ℕ) → IsLabelling n (Contains taken) a → IsLabelling n (Contains taken) b → a ≡ b

-- two vertices have the same label exactly if the set joins them
abbrev pub OneLabelWhereJoined : Type 0
OneLabelWhereJoined =
    (n : ℕ) (taken : List Link) (labels : List ℕ) → IsLabelling n (Contains taken) labels
    → (u v : ℕ) → IsVertex n u → IsVertex n v → (label_of labels u ≡ label_of labels v) ↔ Joins (Contains taken) u v

-- a labelling is labels as the calls use them: a label is a vertex, its own label, and not above a vertex that has it
abbrev pub LabellingIsLabels : Type 0
LabellingIsLabels =
    (n : ℕ) (taken : List Link) (labels : List ℕ) → n ≤ MAX_VERTICES → IsLabelling n (Contains taken) labels → AreLabels labels

-- labels by which each vertex labels itself are the labelling by no links
abbrev pub ApartByNoLinks : Type 0
ApartByNoLinks = (n : ℕ) (labels : List ℕ) → AreApart n labels ↔ IsLabelling n (Contains []) labels

-- a set spans a list exactly if no link of the list leaves a label
abbrev pub SpansWhereNoneLeaves : Type 0
SpansWhereNoneLeaves =
    (n : ℕ) (links taken : List Link) (labels : List ℕ) → EndsUpTo n links → IsLabelling n (Contains taken) labels
    → Spans (Contains taken) links ↔ ((l : Link) (c : ℕ) → Contains links l → ¬ (Leaves labels l c))

-- ---- the forest is the part of itself that spans

abbrev pub ForestHasNoCycle : Type 0
ForestHasNoCycle = (links : List Link) → HasNoCycle (IsForestLink links)

abbrev pub ForestSpans : Type 0
ForestSpans = (links : List Link) → Spans (IsForestLink links) links

-- a part of the forest that spans the list is the whole forest
abbrev pub SpanningPartIsForest : Type 0
SpanningPartIsForest =
    (links part : List Link) → IsPartOf (Contains part) (IsForestLink links) → Spans (Contains part) links
    → SameLinks (Contains part) (IsForestLink links)

-- ---- the cut property

-- for any labels: if a link of the list leaves a label, a least such link exists
abbrev pub LeastLeavingExists : Type 0
LeastLeavingExists =
    (links : List Link) (labels : List ℕ) (c : ℕ) (m : Link) → Contains links m → Leaves labels m c
    → (l : Link) × IsLeastLeaving labels (Contains links) c l

-- the least such link is in the forest
abbrev pub LeastLeavingIsInForest : Type 0
LeastLeavingIsInForest =
    (links : List Link) (labels : List ℕ) (c : ℕ) (l : Link) → IsLeastLeaving labels (Contains links) c l → IsForestLink links l

-- ---- the rounds end with the forest

abbrev pub RoundsAreInForest : Type 0
RoundsAreInForest = (n : ℕ) (links : List Link) (i : ℕ) → IsPartOf (TakenAfter n links i) (IsForestLink links)

-- what is taken after a number of rounds is a finite set
abbrev pub RoundsAreFinite : Type 0
RoundsAreFinite = (n : ℕ) (links : List Link) (i : ℕ) → (taken : List Link) × SameLinks (Contains taken) (TakenAfter n links i)

-- what is taken depends only on the set of the list's links, not on their order or repeats
abbrev pub RoundsOfSameLinks : Type 0
RoundsOfSameLinks =
    (n : ℕ) (links other : List Link) → SameLinks (Contains links) (Contains other)
    → (i : ℕ) → SameLinks (TakenAfter n links i) (TakenAfter n other i)

-- the picks of the next round, added to what is taken after i rounds, make what is taken after one more
abbrev pub RoundByRound : Type 0
RoundByRound =
    (n : ℕ) (links taken added : List Link) (i : ℕ) → SameLinks (Contains taken) (TakenAfter n links i)
    → AreRoundPicks n links taken added → SameLinks (Contains (taken ++ added)) (TakenAfter n links (suc i))

-- a round adds nothing exactly if no link of the list leaves a label
abbrev pub AddsNothingWhereNoneLeaves : Type 0
AddsNothingWhereNoneLeaves =
    (n : ℕ) (links : List Link) → EndsUpTo n links
    → (i : ℕ) (labels : List ℕ) → IsLabelling n (TakenAfter n links i) labels
    → SameLinks (TakenAfter n links (suc i)) (TakenAfter n links i)
    ↔ ((l : Link) (c : ℕ) → Contains links l → ¬ (Leaves labels l c))

-- there is exactly one number of merging rounds
abbrev pub OneNumberOfRounds : Type 0
OneNumberOfRounds =
    (n : ℕ) (links : List Link) → EndsUpTo n links
    → (r : ℕ) × IsMergingRounds n links r × ((q : ℕ) → IsMergingRounds n links q → q ≡ r)

-- from that round on, what is taken is the forest
abbrev pub ForestFromThenOn : Type 0
ForestFromThenOn =
    (n : ℕ) (links : List Link) → EndsUpTo n links
    → (r : ℕ) → IsMergingRounds n links r → (i : ℕ) → r ≤ i → SameLinks (TakenAfter n links i) (IsForestLink links)

-- ---- the number of merging rounds is at most the logarithm of the number of vertices

abbrev pub RoundsAtMostLogarithm : Type 0
RoundsAtMostLogarithm =
    (n : ℕ) (links : List Link) → EndsUpTo n links → (r : ℕ) → IsMergingRounds n links r → 2 ^ r ≤ max 1 n

-- every round that adds a link is within this bound
abbrev pub MergingRoundIsInTime : Type 0
MergingRoundIsInTime =
    (n : ℕ) (links : List Link) → EndsUpTo n links
    → (i : ℕ) → ¬ (SameLinks (TakenAfter n links (suc i)) (TakenAfter n links i)) → 2 ^ suc i ≤ n

-- ---- however the list is cut, and in whatever order the shards' offers are received

-- The shards have the links of a list, and all their offers are light. Then the least named link that leaves a label is
-- the least link of the list that leaves it.
abbrev pub LightOffersSuffice : Type 0
LightOffersSuffice =
    (links : List Link) (labels : List ℕ) (heard : List Hearing) → HaveLinksOf heard links → AreAllLight labels heard
    → (c : ℕ) (l : Link) → IsLeastLeaving labels (IsNamed heard) c l ↔ IsLeastLeaving labels (Contains links) c l

-- the same, if the shards are cut from a list, end to end, and heard in another order
abbrev pub AnyCutAnyOrder : Type 0
AnyCutAnyOrder =
    (labels : List ℕ) (cut heard : List Hearing) → IsPermutation cut heard → AreAllLight labels cut
    → (c : ℕ) (l : Link)
    → IsLeastLeaving labels (IsNamed heard) c l ↔ IsLeastLeaving labels (Contains (flat_map (λ h. h.shard) cut)) c l

-- offers that aren't light also name the same links in any order
abbrev pub OrderOfHearingIsFree : Type 0
OrderOfHearingIsFree = (first second : List Hearing) → IsPermutation first second → SameLinks (IsNamed first) (IsNamed second)

-- a link that leaves a label leaves exactly the labels of its two endpoints
abbrev pub LeavesBothEnds : Type 0
LeavesBothEnds =
    (labels : List ℕ) (l : Link) (c : ℕ) → Leaves labels l c
    ↔ (label_of labels l.low ≢ label_of labels l.high) × ((c ≡ label_of labels l.low) ⊎ (c ≡ label_of labels l.high))

-- ---- joining by steps

-- the taken and the added links join what the added links join over the components of the taken links
abbrev pub JoinedBySteps : Type 0
JoinedBySteps =
    (n : ℕ) (taken added : List Link) (labels : List ℕ) → EndsUpTo n taken → EndsUpTo n added
    → IsLabelling n (Contains taken) labels
    → (u v : ℕ) → IsVertex n u → IsVertex n v → Joins (Contains (taken ++ added)) u v ↔ JoinsOver labels (Contains added) u v

-- so adding links changes the labelling exactly as joining the old components by these links does
abbrev pub RelabelledBySteps : Type 0
RelabelledBySteps =
    (n : ℕ) (taken added : List Link) (labels : List ℕ) → EndsUpTo n taken → EndsUpTo n added
    → IsLabelling n (Contains taken) labels
    → (new : List ℕ) → IsLabelling n (Contains (taken ++ added)) new ↔ IsRelabelling n labels (Contains added) new

-- there is only one such list of labels
abbrev pub RelabellingIsUnique : Type 0
RelabellingIsUnique =
    (n : ℕ) (added : List Link) (old a b : List ℕ) → IsRelabelling n old (Contains added) a → IsRelabelling n old (Contains added) b
    → a ≡ b

-- these labels are labels as the calls use them
abbrev pub RelabellingIsLabels : Type 0
RelabellingIsLabels =
    (n : ℕ) (added : List Link) (old new : List ℕ) → n ≤ MAX_VERTICES → IsRelabelling n old (Contains added) new → AreLabels new

-- ---- one round over any offers

-- a law for each set of links that a list gives: the members of a list of links, or the links that received offers name
abbrev pub OfEachSet : (LinkSet → Type 0) → Type 0
OfEachSet Law = ((links : List Link) → Law (Contains links)) × ((heard : List Hearing) → Law (IsNamed heard))

-- a pick is an offered link that isn't taken yet
abbrev pub PicksAreNew : LinkSet → Type 0
PicksAreNew offered =
    (n : ℕ) (taken : List Link) (labels : List ℕ) → EndsUpTo n taken → IsLabelling n (Contains taken) labels
    → (l : Link) → IsPick labels offered l → offered l × ¬ (Contains taken l)

-- a link that is picked for two labels has one endpoint in each of these components
abbrev pub PickedFromBothSides : LinkSet → Type 0
PickedFromBothSides offered =
    (labels : List ℕ) (c d : ℕ) (l : Link) → IsLeastLeaving labels offered c l → IsLeastLeaving labels offered d l → c ≢ d
    → ((c ≡ label_of labels l.low) × (d ≡ label_of labels l.high)) ⊎ ((c ≡ label_of labels l.high) × (d ≡ label_of labels l.low))

-- picks that are added to a set without a cycle close no cycle
abbrev pub PicksCloseNoCycle : LinkSet → Type 0
PicksCloseNoCycle offered =
    (n : ℕ) (taken added : List Link) (labels : List ℕ) → EndsUpTo n taken
    → IsLabelling n (Contains taken) labels → HasNoCycle (Contains taken)
    → IsPartOf (Contains added) (IsPick labels offered) → HasNoCycle (Contains (taken ++ added))

-- ---- the least link of the union of two sets

-- a law for two sets that lists give, and for the set that the two lists give when concatenated
abbrev pub OfEachUnion : (LinkSet → LinkSet → LinkSet → Type 0) → Type 0
OfEachUnion Law =
    ((first second : List Link) → Law (Contains first) (Contains second) (Contains (first ++ second)))
    × ((first second : List Hearing) → Law (IsNamed first) (IsNamed second) (IsNamed (first ++ second)))

-- the union has the links of both sets
abbrev pub UnionHasBoth : LinkSet → LinkSet → LinkSet → Type 0
UnionHasBoth first second both = SameLinks both (Either first second)

-- its least link that leaves a label is the lesser of the two sets' least links that do
abbrev pub LeastOfBoth : LinkSet → LinkSet → LinkSet → Type 0
LeastOfBoth first second both =
    (labels : List ℕ) (c : ℕ) (l m : Link) → IsLeastLeaving labels first c l → IsLeastLeaving labels second c m
    → (k : Link) → IsLeastLeaving labels both c k ↔ IsLesser l m k

-- if no link of one set leaves the label, it is the least link of the other set that does
abbrev pub LeastOfFirst : LinkSet → LinkSet → LinkSet → Type 0
LeastOfFirst first second both =
    (labels : List ℕ) (c : ℕ) → NoneLeaves labels second c
    → (k : Link) → IsLeastLeaving labels both c k ↔ IsLeastLeaving labels first c k

abbrev pub LeastOfSecond : LinkSet → LinkSet → LinkSet → Type 0
LeastOfSecond first second both =
    (labels : List ℕ) (c : ℕ) → NoneLeaves labels first c
    → (k : Link) → IsLeastLeaving labels both c k ↔ IsLeastLeaving labels second c k

-- ---- a list has exactly one list of light offers

abbrev pub LightOffersExist : Type 0
LightOffersExist = (links : List Link) (labels : List ℕ) → (offers : List Offer) × AreLightOffers links labels offers

abbrev pub LightOffersAreUnique : Type 0
LightOffersAreUnique =
    (links : List Link) (labels : List ℕ) (a b : List Offer) → AreLightOffers links labels a → AreLightOffers links labels b → a ≡ b

-- each of them names a link of the list that leaves its label
abbrev pub LightOffersLeave : Type 0
LightOffersLeave =
    (links : List Link) (labels : List ℕ) (offers : List Offer) → AreLightOffers links labels offers
    → All (OffersLeaving links labels) offers
