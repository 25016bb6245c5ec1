-- What the coordinator's own scans do to a book.
use Rattle.std.specs.Prelude.{◌≡◌, ℕ, ◌+◌, List, length, All}
use Rattle.links.specs.AnswerValue.{AnswerValue}
use Rattle.round_core.specs.BookValue.{BookValue, missing}
use Rattle.port_rounds.specs.Asks.{IsLight}
use Rattle.port_rounds.specs.Taking.{with_answers}

-- `count` shards were scanned, and the book took their light offers
pub record ScansShards (old new : BookValue) (count : ℕ) : Type 0 where
  pub answers : List AnswerValue
  pub count_is : length answers ≡ count
  pub value : new ≡ with_answers old answers
  pub missed : missing new + count ≡ missing old
  pub light : All (IsLight old) answers
