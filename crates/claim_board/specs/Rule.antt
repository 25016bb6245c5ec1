-- The rule of the words of a board: between any two steps, some run of the machine leaves the words as they are. In
-- that run, each seat's events are those in its token's view.
use Rattle.std.specs.Prelude.{◌≡◌, ℕ, zero, suc, ◌+◌, ◌<◌, ◌≤◌, ◌↔◌, List, [], ◌∷◌, ◌++◌, length, drop, replicate, slice_index, Contains, Option, Some, None}
use mathlib.Core.Option.{some}
use lib.ListN.{get_elem?}
use Rattle.atomic_table.specs.Table.{Step, Me}
use Rattle.claim_board.specs.declared.event.Event.{Event}
use Rattle.claim_board.specs.declared.event.Event.TheVariants.{Win, Turned, GiveBack}
use Rattle.claim_board.specs.declared.rule.Size.{Size}
use Rattle.claim_board.specs.declared.rule.View.{View}
use Rattle.claim_board.specs.Machine.{owner, IsRun, of_seat, held}

-- the word of a shard: 0 if nobody owns it, otherwise the owner's number plus 1
abbrev pub word_of : Option ℕ → ℕ
word_of None = 0
word_of (Some seat) = suc seat

-- the view has this number, with these events
abbrev pub Knows : View → ℕ → List Event → Type 0
Knows view number events = (k : ℕ) × (number ≡ view.first + k) × (get_elem? view.lists k ≡ some events)

-- the view at this index has this number
abbrev pub IsSeatedAt : List View → ℕ → ℕ → Type 0
IsSeatedAt views place number = (view : View) × (events : List Event) × (get_elem? views place ≡ some view) × Knows view number events

-- some run leaves these words, and it has the events of each seat in that seat's order, each once, and no others
pub record AgreesWithRun (size : Size) (row : List ℕ) (views : List View) : Type 0 where
  pub run : List Event
  pub is_run : IsRun run
  pub shards : length row ≡ size.shards
  -- each word says who owns its shard
  pub words : (shard : ℕ) → slice_index row shard ≡ word_of (owner run shard)
  -- the one index of each number among the views
  pub place : ℕ → ℕ
  -- a view that has a number is at that index, and its events of that number are the seat's events in the run
  pub known : (at : ℕ) (view : View) (number : ℕ) (events : List Event) → get_elem? views at ≡ some view → Knows view number events
      → (place number ≡ at) × (of_seat number run ≡ events) × (view.size ≡ size)
  -- each number of the board is in a view
  pub seated : (number : ℕ) → number < size.seats → IsSeatedAt views (place number) number
  -- no other number has an event
  pub others : (number : ℕ) → size.seats ≤ number → of_seat number run ≡ []

-- the numbers that begin at `first`, one for each list of events
abbrev pub several : Size → ℕ → List (List Event) → View
several size first lists = record { size = size; first = first; lists = lists }

-- all numbers, with no events
abbrev pub opener : Size → View
opener size = several size 0 (replicate size.seats [])

-- one number, with its events
abbrev pub lone : Size → ℕ → List Event → View
lone size number events = several size number (events ∷ [])

-- the events of the view's first number
abbrev pub first_events : List (List Event) → List Event
first_events [] = []
first_events (events ∷ rest) = events

-- the view of one number, after one more event of its own
abbrev pub with_event : View → Event → View
with_event view event = lone view.size view.first (first_events view.lists ++ event ∷ [])

-- what a claim shows to its seat, by the word that it found: it won a free shard, or the word's owner, perhaps itself,
-- has it
abbrev pub Claimed : Step (Unit {0}) → Me (Unit {0}) View → ℕ → Me (Unit {0}) View → Type 0
Claimed step before zero after =
    (after ≡ (with_event before.0 (Win before.0.first step.word), before.1)) × (¬ Contains (held (first_events before.0.lists)) step.word)
Claimed step before (suc owner) after =
    (after ≡ (with_event before.0 (Turned before.0.first step.word owner), before.1))
    × (owner < before.0.size.seats)
    × ((owner ≡ before.0.first) ↔ Contains (held (first_events before.0.lists)) step.word)

-- what giving a shard back shows to its seat
abbrev pub GivenBack : Step (Unit {0}) → Me (Unit {0}) View → ℕ → Me (Unit {0}) View → Type 0
GivenBack step before found after = after ≡ (with_event before.0 (GiveBack before.0.first step.word), before.1)

-- a view without its first number, and the view of that number alone
abbrev pub without_first : View → View
without_first view = several view.size (view.first + 1) (drop 1 view.lists)

abbrev pub first_alone : View → View
first_alone view = lone view.size view.first (first_events view.lists)

-- the numbers of the second view come before those of the first
abbrev pub with_before : View → View → View
with_before view before = several before.size before.first (before.lists ++ view.lists)

-- a view that has no number
abbrev pub nobody : View
nobody = several record { shards = 0; seats = 0 } 0 []
