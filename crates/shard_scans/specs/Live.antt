-- Links of a shard that needn't be scanned, since they leave no label, or another one between the same two labels comes
-- first.
use Rattle.std.specs.Prelude.{◌≡◌, ℕ, ◌+◌, ◌<◌, ◌≤◌, ◌↔◌, ◌⊎◌, ◌==◌, if◌then◌else◌, List, [], ◌∷◌, length, map, slice_index_or, All}
use Rattle.std.specs.Prelude.{Option, None, Some, IfSome}
use Rattle.links.specs.declared.links.Link.{Link}
use Rattle.links.specs.Link.{EndsUpTo}
use Rattle.links.specs.Labels.{label_of, Coarsens}
use Rattle.links.specs.Offers.{Offer}
use Rattle.round_theory.specs.Labelling.{IsVertex}
use Rattle.round_theory.specs.Offers.{AreLightOffers}
use Rattle.shard_scans.specs.declared.live.LiveLink.{LiveLink}
use Rattle.shard_scans.specs.declared.scanning.Best.{Best}
use Rattle.shard_scans.specs.Scanning.{ComesFirst, AreBestUpTo}

-- two vertices of one label
abbrev pub HaveOneLabel : List ℕ → ℕ → ℕ → Type 0
HaveOneLabel labels u v = IsVertex (length labels) u × IsVertex (length labels) v × (label_of labels u ≡ label_of labels v)

-- both endpoints of the link have one label
pub record IsInside (labels : List ℕ) (l : Link) : Type 0 where
  pub labelled : l.high ≤ length labels
  pub one_label : label_of labels l.low ≡ label_of labels l.high

-- parallel links: their endpoints have the same two labels
abbrev pub AreParallel : List ℕ → Link → Link → Type 0
AreParallel labels l m = (HaveOneLabel labels l.low m.low × HaveOneLabel labels l.high m.high)
    ⊎ (HaveOneLabel labels l.low m.high × HaveOneLabel labels l.high m.low)

-- The first of parallel links is listed, and outdoes the others: the link just before index `from` outdoes the one at
-- index `q`.
pub record IsOutdone (links : List Link) (labels : List ℕ) (from q : ℕ) (l : Link) : Type 0 where
  pub place : ℕ
  pub just_before : place + 1 ≡ from
  pub earlier : Link
  pub here : earlier ≡ slice_index_or links place earlier
  pub parallel : AreParallel labels earlier l
  pub first : ComesFirst earlier place l q

-- the link at index `q` needn't be listed, after the one just before `from`
abbrev pub IsAside : List Link → List ℕ → ℕ → ℕ → Link → Type 0
IsAside links labels from q l = IsInside labels l ⊎ IsOutdone links labels from q l

-- the same of all links from index `from` to before `to`
abbrev pub AreAside : List Link → List ℕ → ℕ → ℕ → Type 0
AreAside links labels from to = (q : ℕ) (l : Link) → from ≤ q → q < to → l ≡ slice_index_or links q l → IsAside links labels from q l

-- indices of live links: they ascend from `from` to before `to`, and the links at all other indices there needn't be
-- listed
abbrev pub AreLive : List Link → List ℕ → ℕ → ℕ → List ℕ → Type 0
AreLive links labels from to [] = (from ≤ to) × AreAside links labels from to
AreLive links labels from to (p ∷ places) = (from ≤ p) × AreAside links labels from p × AreLive links labels (p + 1) to places

-- what is written of a link: for each endpoint, a vertex of that endpoint's label
pub record IsEntryOf (labels : List ℕ) (l : Link) (written : LiveLink) : Type 0 where
  pub low : HaveOneLabel labels written.low l.low
  pub high : HaveOneLabel labels written.high l.high

abbrev pub places_of : List LiveLink → List ℕ
places_of live = map (λ (l : LiveLink). l.place) live

-- live links: each is written of the link at its index, and the links at all other indices needn't be listed
pub record AreLiveLinks (links : List Link) (labels : List ℕ) (live : List LiveLink) : Type 0 where
  pub places : AreLive links labels 0 (length links) (places_of live)
  pub written : All (λ written. (l : Link) → l ≡ slice_index_or links written.place l → IsEntryOf labels l written) live

-- the live indices before an index are those before the next: the link there needn't be listed
abbrev pub StayLive : List Link → List ℕ → List LiveLink → ℕ → Type 0
StayLive links labels live place = AreLive links labels 0 place (places_of live) → AreLive links labels 0 (place + 1) (places_of live)

-- what is written of a live link, with the labels of its vertices
abbrev pub relabelled : List ℕ → LiveLink → LiveLink
relabelled labels l = record { low = label_of labels l.low; high = label_of labels l.high; place = l.place }

-- a link, written with its own labels and its index
abbrev pub written_at : List ℕ → Link → ℕ → LiveLink
written_at labels l place = record { low = label_of labels l.low; high = label_of labels l.high; place = place }

-- what is written of a link has labels from 1 to `labels`, and an index of the list
pub record CanBeTakenIn (links : List Link) (labels : ℕ) (written : LiveLink) : Type 0 where
  pub low : IsVertex labels written.low
  pub high : IsVertex labels written.high
  pub in_list : written.place < length links

-- A table of no links took live ones that are written with their labels. Then its entry for each label has the best
-- index of all links.
abbrev pub TakesInLive : List Link → List LiveLink → List Best → List Best → Type 0
TakesInLive links written old new = (count : ℕ) (labels : List ℕ) (live : List LiveLink) → AreLiveLinks links labels live
    → written ≡ map (relabelled labels) live → AreBestUpTo count links labels 0 0 old → AreBestUpTo count links labels 0 (length links) new

-- the same of all live links, without those whose endpoints now have one label
abbrev pub packed : List ℕ → List LiveLink → List LiveLink
packed labels [] = []
packed labels (l ∷ live) = if label_of labels l.low == label_of labels l.high then packed labels live else relabelled labels l ∷ packed labels live

-- a shard's links, and which of them are live: all, or those that are listed
pub record KeptShardState : Type 0 where
  pub links : List Link
  pub live : Option (List LiveLink)

-- the least `n` for which all endpoints are vertices of 1 to `n`
abbrev pub IsGreatestEnd : List Link → ℕ → Type 0
IsGreatestEnd links greatest = (n : ℕ) → EndsUpTo n links ↔ (greatest ≤ n)

-- the light offers of the links if each endpoint has a label, and otherwise none
abbrev pub AreOffersOf : List Link → List ℕ → Option (List Offer) → Type 0
AreOffersOf links labels None = ¬ EndsUpTo (length labels) links
AreOffersOf links labels (Some offers) = EndsUpTo (length labels) links × AreLightOffers links labels offers

-- if live links are listed, they are those of the shard's links under these labels
abbrev pub IsLive : List ℕ → KeptShardState → Type 0
IsLive labels kept = IfSome kept.live (AreLiveLinks kept.links labels)

abbrev pub IsAllLive : KeptShardState → Type 0
IsAllLive kept = kept.live ≡ None

-- The links that are live under labels are live under labels that coarsen them.
abbrev pub LiveUnderCoarser : Type 0
LiveUnderCoarser = (kept : KeptShardState) (labels finer : List ℕ) → Coarsens labels finer → IsLive finer kept → IsLive labels kept
