-- Numbers for the labels that a shard's links have, in the order of the labels, and the labels by their numbers.
use Rattle.std.specs.Prelude.{◌≡◌, ℕ, zero, suc, ◌+◌, ◌-◌, ◌*◌, ◌/◌, ◌%◌, ◌^◌, ◌<◌, ◌≤◌, ◌⊎◌}
use Rattle.std.specs.Prelude.{List, length, map, slice_index, slice_index_or, All}
use Rattle.std.specs.Int.{bit_at}
use Rattle.links.specs.declared.links.Link.{Link}
use Rattle.links.specs.Labels.{label_of}
use Rattle.links.specs.Offers.{Offer}
use Rattle.round_theory.specs.Labelling.{IsVertex}
use Rattle.shard_scans.specs.declared.live.LiveLink.{LiveLink}
use Rattle.shard_scans.specs.declared.numbers.MarkWord.{MarkWord}
use Rattle.shard_scans.specs.Live.{AreLiveLinks, packed, relabelled}

-- no label of a word is marked
abbrev pub no_marks : MarkWord
no_marks = record { marks = 0; before = 0 }

abbrev pub marks_of : List MarkWord → List ℕ
marks_of words = map (λ (w : MarkWord). w.marks) words

-- the label is marked: there are 64 labels per word, and label 1 is the lowest bit of the first one
pub record IsMarked (marks : List ℕ) (c : ℕ) : Type 0 where
  pub from_one : 1 ≤ c
  pub in_words : (c - 1) / 64 < length marks
  pub bit : bit_at (slice_index marks ((c - 1) / 64)) ((c - 1) % 64) ≡ 1

-- how many of the first labels, from 1 on, are marked
abbrev pub marked_to : List ℕ → ℕ → ℕ
marked_to marks zero = 0
marked_to marks (suc c) = marked_to marks c + bit_at (slice_index marks (c / 64)) (c % 64)

-- how many are marked in the first words
abbrev pub marked_in : List ℕ → ℕ → ℕ
marked_in marks words = marked_to marks (words * 64)

-- each word says how many are marked in those before it, and there are few
pub record AreCounted (words : List MarkWord) : Type 0 where
  pub before : (w : ℕ) (d : MarkWord) → w < length words → (slice_index_or words w d).before ≡ marked_in (marks_of words) w
  pub few : marked_in (marks_of words) (length words) ≤ 2 ^ 28

-- the number of a label: one more than the number of marked labels below it
abbrev pub number_of : List ℕ → ℕ → ℕ
number_of marks c = marked_to marks (c - 1) + 1

-- the name of the label's number is the label
abbrev pub HasItsName : List ℕ → List ℕ → ℕ → Type 0
HasItsName marks names c = slice_index names (number_of marks c - 1) ≡ c

-- what is written of a link by labels, with their numbers instead
abbrev pub numbered : List ℕ → LiveLink → LiveLink
numbered marks l = record { low = number_of marks l.low; high = number_of marks l.high; place = l.place }

-- both labels of what is written of a link are marked; both are the names of their numbers
abbrev pub AreBothMarked : List ℕ → LiveLink → Type 0
AreBothMarked marks l = IsMarked marks l.low × IsMarked marks l.high

abbrev pub AreBothNamed : List ℕ → List ℕ → LiveLink → Type 0
AreBothNamed marks names l = HasItsName marks names l.low × HasItsName marks names l.high

-- the name of a number, or the number itself if it has none
abbrev pub name_of : List ℕ → ℕ → ℕ
name_of names number = slice_index_or names (number - 1) number

-- what is written by numbers, with their names instead
abbrev pub named : List ℕ → LiveLink → LiveLink
named names l = record { low = name_of names l.low; high = name_of names l.high; place = l.place }

-- labels of vertices, with their numbers instead
abbrev pub numbered_labels : List ℕ → List ℕ → List ℕ
numbered_labels marks labels = map (number_of marks) labels

-- each number has a name
abbrev pub HaveNames : List ℕ → List LiveLink → Type 0
HaveNames names live = All (λ l. IsVertex (length names) l.low × IsVertex (length names) l.high) live

-- both endpoints of what is written of each link are vertices with labels
abbrev pub HaveLabels : List ℕ → List LiveLink → Type 0
HaveLabels labels live = All (λ l. IsVertex (length labels) l.low × IsVertex (length labels) l.high) live

-- a pair of a number and an index, with the number's name instead of it
abbrev pub offered : List ℕ → Offer → Offer
offered names o = (slice_index names (o.0 - 1), o.1)

-- the label of a name as a vertex, or 1 if there is no such vertex
abbrev pub new_name : List ℕ → ℕ → ℕ
new_name labels name = slice_index_or labels (name - 1) 1

abbrev pub new_number : List ℕ → List ℕ → ℕ → ℕ
new_number marks labels name = number_of marks (new_name labels name)

-- what is listed of live links, by labels of vertices
abbrev pub shown : List ℕ → List LiveLink → List LiveLink
shown names live = map (named names) live

-- live links, listed by numbers that have names
pub record AreListed (links : List Link) (labels names : List ℕ) (listed : List LiveLink) : Type 0 where
  pub live : AreLiveLinks links labels (shown names listed)
  pub have_names : HaveNames names listed

-- the labels of both endpoints are marked, and are the names of their numbers
pub record HasNumbers (labels marks names : List ℕ) (l : Link) : Type 0 where
  pub low_marked : IsMarked marks (label_of labels l.low)
  pub high_marked : IsMarked marks (label_of labels l.high)
  pub low_named : HasItsName marks names (label_of labels l.low)
  pub high_named : HasItsName marks names (label_of labels l.high)

-- the same of each link whose endpoints don't have one label
abbrev pub AreNumbered : List Link → List ℕ → List ℕ → List ℕ → Type 0
AreNumbered links labels marks names = (q : ℕ) (l : Link) → q < length links → l ≡ slice_index_or links q l
    → (label_of labels l.low ≡ label_of labels l.high) ⊎ HasNumbers labels marks names l

abbrev pub HaveMarks : List ℕ → List ℕ → List ℕ → Type 0
HaveMarks labels marks names = (i : ℕ) → i < length names → IsMarked marks (new_name labels (slice_index names i))

-- what is written of links by marked labels that have names, with their numbers instead
pub record AreByNumbers (marks names : List ℕ) (by_labels live : List LiveLink) : Type 0 where
  pub numbered_are : live ≡ map (numbered marks) by_labels
  pub marked : All (AreBothMarked marks) by_labels
  pub named_are : All (AreBothNamed marks names) by_labels

-- what was listed by numbers is now listed by those of the names' labels, without links whose endpoints have one label
abbrev pub Relists : List MarkWord → List ℕ → List ℕ → List LiveLink → List ℕ → List LiveLink → Type 0
Relists words labels names live names' live' = AreByNumbers (marks_of words) names' (packed labels (shown names live)) live'

-- live links, written by labels that label themselves, are listed with the numbers of these labels, which have names
pub record AreLiveByNumbers (links : List Link) (labels marks names : List ℕ) (live : List LiveLink) : Type 0 where
  pub by_labels : List LiveLink
  pub live_are : AreLiveLinks links labels by_labels
  pub own : All (λ e. relabelled labels e ≡ e) by_labels
  pub by_numbers : AreByNumbers marks names by_labels live
