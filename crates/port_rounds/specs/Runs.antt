-- What the rounds of a run do to each lane, and to one book after another.
use Rattle.std.specs.Prelude.{◌≡◌, ℕ, ◌+◌, ◌*◌, ◌<◌, ◌≤◌, ◌⊎◌, true, false, List, length, slice_index_or, All, Contains, Option}
use Rattle.links.specs.declared.links.Link.{Link}
use Rattle.links.specs.AnswerValue.{AnswerValue}
use Rattle.round_theory.specs.Offers.{IsNamed}
use Rattle.round_core.specs.BookValue.{BookValue, IsBookValue, opened, missing, hearings}
use Rattle.round_theory.specs.declared.port.Port as Port
use Rattle.round_theory.specs.Ports.{PortState}
use Rattle.round_theory.specs.Exchanges.{Exchange}
use Rattle.port_rounds.specs.Lanes.{LaneState, ask_count, open_count}
use Rattle.port_rounds.specs.Asks.{AnswersAsks, TakesExchange, ClosesPort, IsLight}
use Rattle.port_rounds.specs.Passes.{AnswersOnce, KeepsHonestly}

-- the book when it was opened
abbrev pub opened_book : BookValue → BookValue
opened_book book = opened book.round book.cut book.labels

-- An ask of one of the books when it was opened, the last one of a port, got no answer, or one that the book rejects.
abbrev pub ClosesPortIn : List BookValue → ℕ × ℕ → Option Exchange → Type 0
ClosesPortIn books last refused = (book : BookValue) × Contains books book × ClosesPort (opened_book book) last refused

-- an exchange of one of the books when it was opened, whose answer that book takes for the shard of the ask
abbrev pub IsKeptIn : List BookValue → Exchange → Type 0
IsKeptIn books exchange = (book : BookValue) × Contains books book × TakesExchange (opened_book book) exchange

-- the ports of lanes before and after asks of these books, and the answers that the lane at each index kept
pub record PortsAnswer {P A : Type 0} (port : Port.Ghosts P A) (books : List BookValue)
    (before after : List (LaneState P)) (answers_at : ℕ → List AnswerValue) : Type 0 where
  pub same_lanes : length after ≡ length before
  pub each : (i : ℕ) (d : LaneState P) → i < length before
      → AnswersAsks port (IsKeptIn books) (ClosesPortIn books) (slice_index_or before i d).port (slice_index_or after i d).port (answers_at i)

-- a lane kept the answer
abbrev pub IsGivenBy : ℕ → (ℕ → List AnswerValue) → AnswerValue → Type 0
IsGivenBy lanes answers_at answer = (i : ℕ) × (i < lanes) × Contains (answers_at i) answer

-- no lane kept one of the book's answers, so the coordinator scanned that shard itself
abbrev pub HasScanned : ℕ → (ℕ → List AnswerValue) → BookValue → Type 0
HasScanned lanes answers_at book = (answer : AnswerValue) × Contains book.answers answer × ¬ (IsGivenBy lanes answers_at answer)

-- a port that was open before is closed after, and its last ask was of this round or an earlier one
abbrev pub ClosesBy : ℕ → PortState → PortState → Type 0
ClosesBy round before after = before.is_open ≡ true → (after.is_open ≡ false) × (after.last.0 ≤ round)

-- the same for the port of each lane
abbrev pub AllCloseBy : {P : Type 0} → (P → PortState) → ℕ → List (LaneState P) → List (LaneState P) → Type 0
AllCloseBy {P} state round before after = (i : ℕ) (d : LaneState P) → i < length before
    → ClosesBy round (state (slice_index_or before i d).port) (state (slice_index_or after i d).port)

-- one of the books has the answer
abbrev pub IsAnswerIn : List BookValue → AnswerValue → Type 0
IsAnswerIn books answer = (book : BookValue) × Contains books book × Contains book.answers answer

-- the answer is light in a book that has it
abbrev pub IsLightIn : List BookValue → AnswerValue → Type 0
IsLightIn books answer = (book : BookValue) × Contains books book × Contains book.answers answer × IsLight book answer

abbrev pub AreLightBooks : List BookValue → Type 0
AreLightBooks books = All (λ book. All (IsLight book) book.answers) books

-- the answers that lanes kept, and the books that took them
pub record MatchesBooks {P : Type 0} (honest : P → Type 0) (before : List (LaneState P))
    (books : List BookValue) (answers_at : ℕ → List AnswerValue) : Type 0 where
  pub reached : (i : ℕ) (answer : AnswerValue) → i < length before → Contains (answers_at i) answer → IsAnswerIn books answer
  -- each answer in a book is light, or a lane kept it
  pub each_is : All (λ book. All (λ answer. IsLight book answer ⊎ IsGivenBy (length before) answers_at answer) book.answers) books
  -- what a lane with an honest port kept is light
  pub light_at : KeepsHonestly honest (IsLightIn books) before answers_at
  pub once : AnswersOnce (length before) answers_at

-- an answer that a book took names the link
abbrev pub IsNamedIn : List BookValue → Link → Type 0
IsNamedIn books l = (book : BookValue) × Contains books book × IsNamed (hearings book) l

-- a full book of the cut: each shard has one answer, and it has no other answer
pub record IsFullBook (cut : List (List Link)) (book : BookValue) : Type 0 where
  pub cut_is : book.cut ≡ cut
  pub value : IsBookValue book
  pub all : missing book ≡ 0

-- Lanes before and after whole rounds over books of a cut. The books have `answered` answers that lanes kept, and
-- `alone` others, each of which is light: the coordinator scanned those shards itself.
pub record RunsRounds {P A : Type 0} (port : Port.Ghosts P A) (cut : List (List Link))
    (before after : List (LaneState P)) (books : List BookValue) (answered alone : ℕ) : Type 0 where
  pub whole : All (IsFullBook cut) books
  pub answers_at : ℕ → List AnswerValue
  pub ports : PortsAnswer port books before after answers_at
  pub kept : MatchesBooks port.honest before books answers_at
  pub few : (i : ℕ) → length (answers_at i) ≤ answered
  -- each shard of each round has an answer that a lane kept, or another
  pub counted : answered + alone ≡ length books * length cut
  -- each ask brought an answer, except those that closed a port
  pub asks : ask_count port.state after + open_count port.state after
      ≡ (ask_count port.state before + answered) + open_count port.state before
  pub never_opened : open_count port.state after ≤ open_count port.state before
  pub closed : 0 < alone → open_count port.state after ≡ 0
  -- in each round: if the coordinator scanned a shard, every port had been closed, and none was asked in a later round
  pub closed_by : All (λ book. HasScanned (length before) answers_at book → AllCloseBy port.state book.round before after) books
  -- if the coordinator scanned nothing, each answer is one that a lane kept
  pub given : alone ≡ 0 → All (λ book. All (IsGivenBy (length before) answers_at) book.answers) books
  pub light : All (λ lane. port.honest lane.port) before → AreLightBooks books
