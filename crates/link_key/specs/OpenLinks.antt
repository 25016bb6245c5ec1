-- The state of the sequential solver's rounds: links with the labels of their endpoints, and new numbers of those
-- labels.
use Rattle.std.specs.Prelude.{◌≡◌, ◌≢◌, ℕ, ◌+◌, ◌<◌, ◌≤◌, ◌⊎◌, Bool, not, ◌==◌, if◌then◌else◌}
use Rattle.std.specs.Prelude.{List, [], ◌∷◌, ◌++◌, map, length, slice_index, slice_index_or, Contains}
use Rattle.std.specs.List.{All, sum_by}
use Rattle.std.specs.List.Sorted.{IsSorted}
use Rattle.std.specs.declared.cmp.Ordering.{Ordering}
use Rattle.links.specs.declared.links.Link.{Link}
use Rattle.link_key.specs.declared.sequential.rounds.Open.{Open}
use Rattle.links.specs.Link.{key_cmp}
use Rattle.links.specs.Walk.{Joins}
use Rattle.link_key.specs.Rounds.{HasOneLabel}
use Rattle.link_key.specs.Rounds.{IsLeastOut, AreJoinedWhereOne, AreLabelsUpTo, IsStage}
use Rattle.links.specs.Labels.{renamed}

-- the link that has the rank of an open link, or d if there is none
abbrev pub link_of : Link → List Link → Open → Link
link_of d links o = slice_index_or links o.rank d

-- the links of the open links
abbrev pub links_of : Link → List Link → List Open → List Link
links_of d links candidates = map (link_of d links) candidates

-- open links compare by the keys of their links
abbrev pub open_cmp : Link → List Link → Open → Open → Ordering
open_cmp d links o p = key_cmp (link_of d links o) (link_of d links p)

-- a link with the labels of its endpoints
abbrev pub with_end_labels : (ℕ → ℕ) → ℕ → Link → Open
with_end_labels label rank l = record { low = label l.low; high = label l.high; rank = rank }

-- all links with the labels of their endpoints, in their order
pub record AreOpened (label : ℕ → ℕ) (links : List Link) (candidates : List Open) : Type 0 where
  pub len : length candidates ≡ length links
  pub each : (k : ℕ) (o : Open) (d : Link) → k < length links → slice_index_or candidates k o ≡ with_end_labels label k (slice_index_or links k d)

-- an open link with its labels replaced by their new numbers
abbrev pub renumbered : List ℕ → Open → Open
renumbered numbers o = record { low = slice_index numbers o.low; high = slice_index numbers o.high; rank = o.rank }

-- its labels differ
abbrev pub is_open : Open → Bool
is_open o = not (o.low == o.high)

-- the open link has the labels of its link's endpoints
abbrev pub IsLabelled : List ℕ → Link → Open → Type 0
IsLabelled labels l o = (l.high < length labels) × (slice_index labels l.low ≡ o.low) × (slice_index labels l.high ≡ o.high)

-- all open links have the labels of their links' endpoints
abbrev pub AreLabelled : List ℕ → Link → List Link → List Open → Type 0
AreLabelled labels d links candidates = All (λ (o : Open). IsLabelled labels (link_of d links o) o) candidates

-- open links with the labels of their endpoints, in the order of their links' keys
abbrev pub AreOpenOf : List ℕ → Link → List Link → List Open → Type 0
AreOpenOf labels d links candidates = IsSorted (open_cmp d links) candidates × AreLabelled labels d links candidates

-- its labels are at least 1 and below the bound, and its rank is below `len`
abbrev pub IsBetween : ℕ → ℕ → Open → Type 0
IsBetween bound len o = (0 < o.low) × (o.low < bound) × (0 < o.high) × (o.high < bound) × (o.rank < len)

-- all open links are within these bounds
abbrev pub AreBetween : ℕ → ℕ → List Open → Type 0
AreBetween bound len candidates = All (IsBetween bound len) candidates

-- how many labels have no number
abbrev pub zeros : List ℕ → ℕ
zeros numbers = sum_by (λ (k : ℕ). if k == 0 then 1 else 0) numbers

-- numbers up to `last`, or 0 for a label without one, as label 0 always is; at least `last` labels have a number
pub record AreNumbers (last : ℕ) (numbers : List ℕ) : Type 0 where
  pub at_most : (c : ℕ) → slice_index numbers c ≤ last
  pub none : slice_index numbers 0 ≡ 0
  pub few : last + zeros numbers ≤ length numbers

-- each label but 0 has a number up to `last`, and at least `last` labels have one
pub record AreAllNumbers (last : ℕ) (numbers : List ℕ) : Type 0 where
  pub at_most : (c : ℕ) → slice_index numbers c ≤ last
  pub none : slice_index numbers 0 ≡ 0
  pub some : (c : ℕ) → 0 < c → c < length numbers → 0 < slice_index numbers c
  pub few : last < length numbers

-- a or b had no number, and now both have the same: the number that one of them had before, or else the next one
pub record ShareNumber (a b last : ℕ) (numbers : List ℕ) (last' : ℕ) (numbers' : List ℕ) : Type 0 where
  pub free : (slice_index numbers a ≡ 0) ⊎ (slice_index numbers b ≡ 0)
  pub len : length numbers' ≡ length numbers
  pub number : ℕ
  pub old : ((number ≡ slice_index numbers a) × (0 < number) × (last' ≡ last))
      ⊎ ((number ≡ slice_index numbers b) × (0 < number) × (last' ≡ last))
      ⊎ ((number ≡ last + 1) × (last' ≡ last + 1) × (slice_index numbers a ≡ 0) × (slice_index numbers b ≡ 0))
  pub first : slice_index numbers' a ≡ number
  pub second : slice_index numbers' b ≡ number
  pub others : (c : ℕ) → c ≢ a → c ≢ b → slice_index numbers' c ≡ slice_index numbers c

-- the number that the table gives to the label of v, or 0 if none
abbrev pub number_at : List ℕ → List ℕ → ℕ → ℕ
number_at labels numbers v = slice_index numbers (slice_index labels v)

-- The effect of the first touches of the links `seen`, which are the first links of `rest`. The labels at their
-- endpoints have numbers. What was taken before stays taken. A link taken now whose endpoints have different labels is
-- the least link of `rest` that leaves some label. If the links taken before join all vertices with the same label,
-- those taken after join all vertices with the same number.
pub record AreTouched (labels : List ℕ) (rest seen : List Link) (numbers : List ℕ) (before after : List Link) : Type 0 where
  pub touched : (l : Link) → Contains seen l → (0 < number_at labels numbers l.low) × (0 < number_at labels numbers l.high)
  pub kept : (l : Link) → Contains before l → Contains after l
  pub least : (l : Link) → Contains after l
      → Contains before l ⊎ (Contains rest l × (¬ (HasOneLabel labels l) → (c : ℕ) × IsLeastOut labels rest c l))
  pub joined : AreJoinedWhereOne labels before → (u v : ℕ) → u < length labels → v < length labels
      → 0 < number_at labels numbers u → number_at labels numbers u ≡ number_at labels numbers v → Joins (Contains after) u v

-- the labels of all open links have numbers
abbrev pub HaveNumbers : List ℕ → List Open → Type 0
HaveNumbers numbers candidates = All (λ (o : Open). (0 < slice_index numbers o.low) × (0 < slice_index numbers o.high)) candidates

-- existing numbers stay, and if another label has a number now, no other label has the same
pub record AreFilled (numbers numbers' : List ℕ) : Type 0 where
  pub len : length numbers' ≡ length numbers
  pub kept : (c : ℕ) → 0 < slice_index numbers c → slice_index numbers' c ≡ slice_index numbers c
  pub alone : (c d : ℕ) → 0 < slice_index numbers' c → slice_index numbers c ≡ 0 → slice_index numbers' c ≡ slice_index numbers' d → c ≡ d

-- the links that are marked, in their order
abbrev pub marked : List Link → List Bool → List Link
marked [] marks = []
marked (l ∷ links) [] = []
marked (l ∷ links) (b ∷ marks) = if b then l ∷ marked links marks else marked links marks

-- The links that the first touches of open links mark are those that they take, and these are the numbers that they
-- give.
abbrev pub MarkTouched : List Open → List Bool → List ℕ → List Bool → Type 0
MarkTouched candidates marks numbers marks' =
    (d : Link) (links before : List Link) (labels : List ℕ) → length links ≡ length marks → AreOpenOf labels d links candidates
    → AreTouched labels (links_of d links candidates) (links_of d links candidates) numbers
    (before ++ marked links marks) (before ++ marked links marks')

-- For all links that the open links can belong to, and for all labels: the kept open links belong to the same links, in
-- the order of their keys, with the new numbers as labels. This doesn't say which open links are kept.
abbrev pub StayOpen : List Open → List ℕ → List Open → Type 0
StayOpen candidates numbers kept =
    (d : Link) (links : List Link) (labels : List ℕ) → AreOpenOf labels d links candidates → AreOpenOf (renamed numbers labels) d links kept

-- Leads from one stage to another. Before, the rest are the links of `candidates`, between the components 1 to `count`.
-- After, the rest are those of `kept`, between the components that the numbers give, and the marked links are taken.
abbrev pub LeadsOn : ℕ → List Open → List Bool → List ℕ → List Open → List Bool → Type 0
LeadsOn count candidates marks numbers kept marks' =
    (d : Link) (all links later before : List Link) (labels : List ℕ)
    → length links ≡ length marks → AreLabelsUpTo count labels → AreOpenOf labels d links candidates
    → IsStage all (links_of d links candidates) later labels (before ++ marked links marks)
    → IsStage all (links_of d links kept) later (renamed numbers labels) (before ++ marked links marks')

-- the same, to a stage in which no links are the rest, with the links that are taken
abbrev pub TakeOpen : ℕ → List Link → List Open → List ℕ → List Link → Type 0
TakeOpen count links candidates numbers taken =
    (d : Link) (all later before : List Link) (labels : List ℕ) → AreLabelsUpTo count labels → AreOpenOf labels d links candidates
    → IsStage all (links_of d links candidates) later labels before → IsStage all [] later (renamed numbers labels) (before ++ taken)
