-- How the numbers of picks are found. Each is that of a link that is offered for its label, and no offered link is less
-- than the number of a label that it leaves. Threads count each link for the label of its offer only, which is enough
-- for light offers.
use Rattle.std.specs.Prelude.{◌≡◌, ℕ, ◌+◌, ◌-◌, ◌<◌, ◌≤◌, ◌⊎◌, List, ◌++◌, length, slice_index, slice_get, All, Any, Contains, Some}
use Rattle.links.specs.declared.links.Link.{Link}
use Rattle.links.specs.Offers.{Offer}
use Rattle.links.specs.Cut.{links_at}
use Rattle.links.specs.AnswerValue.{AnswerValue}
use Rattle.round_theory.specs.Offers.{Leaves}
use Rattle.round_core.specs.BookValue.{CanCount}
use Rattle.round_core.specs.PickNumbers.{IsKeyNumber, no_pick}

-- each offer has an index of the list
abbrev pub HavePlaces : List Link → List Offer → Type 0
HavePlaces links offers = All (λ (o : Offer). o.1 < length links) offers

-- the answer is for a shard of the cut, and each of its offers has an index there
pub record IsPlaced (cut : List (List Link)) (a : AnswerValue) : Type 0 where
  pub within : a.shard < length cut
  pub places : HavePlaces (links_at cut a.shard) a.offers

-- the link is offered for label `c` by one of the offers of a list
abbrev pub IsOfferedBy : List Link → List Offer → ℕ → Link → Type 0
IsOfferedBy links offers c l = (place : ℕ) × Contains offers (c, place) × (slice_get links place ≡ Some l)

-- or by one of the answers
abbrev pub IsOfferedIn : List (List Link) → List AnswerValue → ℕ → Link → Type 0
IsOfferedIn cut answers c l = Any (λ (a : AnswerValue). IsOfferedBy (links_at cut a.shard) a.offers c l) answers

-- each of the vertices after the first `start` has the number that it had, or that of a link that is offered for it
abbrev pub AreTakenFrom : (ℕ → Link → Type 0) → ℕ → List ℕ → List ℕ → Type 0
AreTakenFrom offered start old new =
    (i : ℕ) → i < length old → (slice_index new i ≡ slice_index old i) ⊎ ((l : Link) × offered (start + i + 1) l × IsKeyNumber l (slice_index new i))

-- the link's endpoints are labelled, and no label that it leaves has the number of a greater link, or of no pick
pub record IsCountedIn (labels numbers : List ℕ) (l : Link) : Type 0 where
  pub end : l.high ≤ length labels
  pub least : (c k : ℕ) → Leaves labels l c → IsKeyNumber l k → slice_index numbers (c - 1) ≤ k

-- the same for each of the links
abbrev pub AreCountedIn : List ℕ → List ℕ → List Link → Type 0
AreCountedIn labels numbers links = (l : Link) → Contains links l → IsCountedIn labels numbers l

-- the number is that of no pick, or of one of the links that leave label `c`
abbrev pub IsNumberOf : List ℕ → List Link → ℕ → ℕ → Type 0
IsNumberOf labels links c k = (k ≡ no_pick) ⊎ ((l : Link) × Contains links l × Leaves labels l c × IsKeyNumber l k)

-- the numbers of the least of the links that leave each label
pub record AreLeastNumbers (labels : List ℕ) (links : List Link) (numbers : List ℕ) : Type 0 where
  pub each_vertex : length numbers ≡ length labels
  pub from : (i : ℕ) → i < length numbers → IsNumberOf labels links (i + 1) (slice_index numbers i)
  pub counted : AreCountedIn labels numbers links

-- answers that can be counted into numbers of no picks
pub record CanCountInto (cut : List (List Link)) (labels : List ℕ) (answers : List AnswerValue) (numbers : List ℕ) : Type 0 where
  pub can : CanCount cut labels answers
  pub each_vertex : length numbers ≡ length labels
  pub none : All (λ k. k ≡ no_pick) numbers

-- Links were counted into the numbers. If the old numbers are the least ones for some list, the new ones are the least
-- for that list and these links.
abbrev pub Counts : List ℕ → List Link → List ℕ → List ℕ → Type 0
Counts labels links old new = (seen : List Link) → AreLeastNumbers labels seen old → AreLeastNumbers labels (seen ++ links) new
