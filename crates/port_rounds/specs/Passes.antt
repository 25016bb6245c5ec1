-- What passes do to each lane and to the book.
use Rattle.std.specs.Prelude.{◌≡◌, ℕ, ◌+◌, ◌<◌, ◌≤◌, List, length, slice_index_or, All, Contains}
use Rattle.links.specs.AnswerValue.{AnswerValue}
use Rattle.round_core.specs.BookValue.{BookValue, missing}
use Rattle.round_theory.specs.declared.port.Port as Port
use Rattle.port_rounds.specs.Lanes.{LaneState, ask_count, open_count}
use Rattle.port_rounds.specs.Asks.{AnswersAsks, TakesExchange, ClosesPort, IsLight, SameShard}
use Rattle.port_rounds.specs.Taking.{with_answers, TakesAll}

-- among the answers that the lanes kept, no two are for the same shard in the same round
abbrev pub AnswersOnce : ℕ → (ℕ → List AnswerValue) → Type 0
AnswersOnce lanes answers_at =
    (i j k l : ℕ) (d : AnswerValue) → i < lanes → j < lanes → k < length (answers_at i) → l < length (answers_at j)
    → SameShard (slice_index_or (answers_at i) k d) (slice_index_or (answers_at j) l d) → (i ≡ j) × (k ≡ l)

-- each answer that a lane with an honest port kept has this property, whatever the other lanes are
abbrev pub KeepsHonestly : {P : Type 0} → (P → Type 0) → (AnswerValue → Type 0) → List (LaneState P) → (ℕ → List AnswerValue) → Type 0
KeepsHonestly {P = P} honest is lanes answers_at =
    (i : ℕ) (d : LaneState P) → i < length lanes → honest (slice_index_or lanes i d).port → All is (answers_at i)

-- lanes and a book before and after passes: the book took these answers, and each is one that a lane's port gave
pub record RunsPasses {P A : Type 0} (port : Port.Ghosts P A) (old new : BookValue) (before after : List (LaneState P)) : Type 0 where
  pub answers : List AnswerValue
  -- those of the lane at each index
  pub answers_at : ℕ → List AnswerValue
  pub same_lanes : length after ≡ length before
  pub each : (i : ℕ) (d : LaneState P) → i < length before
      → AnswersAsks port (TakesExchange old) (ClosesPort old) (slice_index_or before i d).port (slice_index_or after i d).port (answers_at i)
  pub given : (answer : AnswerValue) → Contains answers answer → (i : ℕ) × (i < length before) × Contains (answers_at i) answer
  pub reached : (i : ℕ) (answer : AnswerValue) → i < length before → Contains (answers_at i) answer → Contains answers answer
  pub once : AnswersOnce (length before) answers_at
  pub few : (i : ℕ) → length (answers_at i) ≤ length answers
  -- each ask brought an answer, except those that closed a port
  pub asks : ask_count port.state after + open_count port.state after
      ≡ (ask_count port.state before + length answers) + open_count port.state before
  pub never_opened : open_count port.state after ≤ open_count port.state before
  pub taken : TakesAll old answers
  pub value : new ≡ with_answers old answers
  pub missed : missing new + length answers ≡ missing old
  -- what a lane with an honest port kept is light
  pub light_at : KeepsHonestly port.honest (IsLight old) before answers_at
