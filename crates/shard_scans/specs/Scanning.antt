-- What is known of each label after the links at a range of indices were scanned.
use Rattle.std.specs.Prelude.{◌≡◌, ℕ, ◌+◌, ◌-◌, ◌/◌, ◌^◌, ◌<◌, ◌≤◌, ◌⊎◌, min, ℤ, pos, negsuc, List, length, slice_index_or, Option, None, Some, MatchOption}
use Rattle.links.specs.declared.links.Link.{Link}
use Rattle.links.specs.Link.{IsBelow}
use Rattle.links.specs.Labels.{label_of}
use Rattle.round_theory.specs.Labelling.{IsVertex}
use Rattle.round_theory.specs.Offers.{Leaves}
use Rattle.shard_scans.specs.declared.scanning.TheConstants.{NO_KEY, NO_PLACE}
use Rattle.shard_scans.specs.declared.scanning.Best.{Best}

-- the link `l` at index `p` comes before the link `m` at index `q`: it is below `m`, or equal to it at no later index
abbrev pub ComesFirst : Link → ℕ → Link → ℕ → Type 0
ComesFirst l p m q = IsBelow l m ⊎ ((l ≡ m) × (p ≤ q))

-- among the links from index `from` to before `to` that leave a label, the one at index `p` comes first
pub record IsBestPlace (links : List Link) (labels : List ℕ) (from to c p : ℕ) : Type 0 where
  pub link : Link
  pub here : link ≡ slice_index_or links p link
  pub from_start : from ≤ p
  pub before_end : p < to
  pub in_list : p < length links
  pub leaves : Leaves labels link c
  pub first : (q : ℕ) (m : Link) → from ≤ q → q < to → q < length links → m ≡ slice_index_or links q m → Leaves labels m c → ComesFirst link p m q

abbrev pub NoneLeavesIn : List Link → List ℕ → ℕ → ℕ → ℕ → Type 0
NoneLeavesIn links labels from to c = (q : ℕ) (m : Link) → from ≤ q → q < to → q < length links → m ≡ slice_index_or links q m → ¬ (Leaves labels m c)

-- the best index for a label, or `None` if no link leaves it
abbrev pub IsBest : List Link → List ℕ → ℕ → ℕ → ℕ → Option ℕ → Type 0
IsBest links labels from to c best = MatchOption best (NoneLeavesIn links labels from to c) (λ place. IsBestPlace links labels from to c place)

-- A key of 32 bits: the weight limited to between -2^30 and 2^30, plus the weight divided by 2^33, rounded down. A
-- greater weight has no lesser key.
abbrev pub short_key : ℤ → ℤ
short_key (pos n) = pos (min n (2 ^ 30) + n / 2 ^ 33)
short_key (negsuc n) = negsuc (min n (2 ^ 30 - 1) + n / 2 ^ 33 + 1)

abbrev pub no_best : Best
no_best = record { key = NO_KEY; place = NO_PLACE }

-- the entry has the index, and the short key of the weight of the link there; it is empty if there is no index
abbrev pub SaysBest : List Link → Best → Option ℕ → Type 0
SaysBest links kept None = kept ≡ no_best
SaysBest links kept (Some place) =
    (kept.place ≡ place) × (place < length links) × ((l : Link) → l ≡ slice_index_or links place l → kept.key ≡ short_key l.weight)

-- the entry for a label has the label's best index
pub record Keeps (links : List Link) (labels : List ℕ) (from to c : ℕ) (kept : Best) : Type 0 where
  pub best : Option ℕ
  pub says : SaysBest links kept best
  pub is : IsBest links labels from to c best

-- `before` is the entry for the links before an index, `next` has the best index from there on, and `after` is the
-- entry for both
abbrev pub KeepsLesser : List Link → Best → Best → Best → Type 0
KeepsLesser links next before after = (labels : List ℕ) (c from at to : ℕ) → from ≤ at → Keeps links labels from at c before
    → IsBestPlace links labels at to c next.place → Keeps links labels from to c after

abbrev pub best_of : List Best → ℕ → Best
best_of table c = slice_index_or table (c - 1) no_best

-- the entry of each label from 1 to `count` has the label's best index
pub record AreBestUpTo (count : ℕ) (links : List Link) (labels : List ℕ) (from to : ℕ) (table : List Best) : Type 0 where
  pub each_vertex : length table ≡ count
  pub best : (c : ℕ) → IsVertex count c → Keeps links labels from to c (best_of table c)

-- the entry of each label has the label's best index
abbrev pub AreBest : List Link → List ℕ → ℕ → ℕ → List Best → Type 0
AreBest links labels from to table = AreBestUpTo (length labels) links labels from to table

-- a table of the links before an index took the link there, whose endpoints have these labels
abbrev pub TakesIn : List Link → ℕ → ℕ → ℕ → List Best → List Best → Type 0
TakesIn links low high place old new = (count : ℕ) (labels : List ℕ) (from : ℕ) (l : Link) → l ≡ slice_index_or links place l
    → low ≡ label_of labels l.low → high ≡ label_of labels l.high → from ≤ place
    → AreBestUpTo count links labels from place old → AreBestUpTo count links labels from (place + 1) new
