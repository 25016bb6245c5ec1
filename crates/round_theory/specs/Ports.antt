-- What the contracts show of a port, and what asks do to it.
use Rattle.std.specs.Prelude.{◌≡◌, ℕ, ◌+◌, Bool, true, false, List, Result, Ok, Err}
use Rattle.links.specs.declared.links.Link.{Link}
use Rattle.links.specs.Cut.{links_at}
use Rattle.links.specs.AnswerValue.{AnswerValue}
use Rattle.round_theory.specs.Offers.{AreLightOffers}
use Rattle.round_theory.specs.declared.fault.PortFault.{PortFault}
use Rattle.round_theory.specs.declared.fault.PortFault.TheVariants.{Memory, Closed}

-- What the contracts show of a port. The fields are its cut, the number of its worker (any number if it has none), and
-- whether it is open. Then come how often it was asked while it was open, how many of these asks failed, and how many
-- ran out of memory. The last field is the round and the shard of the last of these asks (0 and 0 before the first).
pub record PortState : Type 0 where
  pub cut : List (List Link)
  pub worker : ℕ
  pub is_open : Bool
  pub asks : ℕ
  pub failures : ℕ
  pub wants : ℕ
  pub last : ℕ × ℕ

-- From `before` to `after`, the port was asked `asked` times, `failed` asks failed, and `wanted` ran out of memory.
-- Each failed ask, and each one that ran out of memory, closes the port, and a closed port isn't asked again. If the
-- port wasn't asked, its last ask is the same.
pub record CountsAsks (asked failed wanted : ℕ) (before after : PortState) : Type 0 where
  pub cut : after.cut ≡ before.cut
  pub worker : after.worker ≡ before.worker
  pub asks : after.asks ≡ before.asks + asked
  pub failures : after.failures ≡ before.failures + failed
  pub wants : after.wants ≡ before.wants + wanted
  pub opened : after.is_open ≡ true → (before.is_open ≡ true) × (failed ≡ 0) × (wanted ≡ 0)
  pub closed : before.is_open ≡ false → (after.is_open ≡ false) × (asked ≡ 0)
  pub last : asked ≡ 0 → after.last ≡ before.last

-- the last ask got no answer: it closes the port, and counts as failed or as out of memory
abbrev pub ClosesOnAsk : (failed wanted round shard : ℕ) → PortState → PortState → Type 0
ClosesOnAsk failed wanted round shard before after =
    (before.is_open ≡ true) × (after.is_open ≡ false) × CountsAsks 1 failed wanted before after × (after.last ≡ (round, shard))

-- the last ask is answered or closes the port; a port that was already closed only reports that
abbrev pub AnswersAsk : {T : Type 0} → Result T PortFault → (round shard : ℕ) → PortState → PortState → Type 0
AnswersAsk (Ok answer) round shard before after = (after.is_open ≡ true) × CountsAsks 1 0 0 before after × (after.last ≡ (round, shard))
AnswersAsk (Err Closed) round shard before after = (before.is_open ≡ false) × CountsAsks 0 0 0 before after
AnswersAsk (Err Memory) round shard before after = ClosesOnAsk 0 1 round shard before after
AnswersAsk (Err fault) round shard before after = ClosesOnAsk 1 0 round shard before after

-- by how much an error increases the two counts
abbrev pub failure_of : PortFault → ℕ
failure_of Memory = 0
failure_of Closed = 0
failure_of _ = 1

abbrev pub want_of : PortFault → ℕ
want_of Memory = 1
want_of _ = 0

-- an honest answer: the round and the shard of the ask, and the light offers of that shard under the labels
pub record IsHonestAnswer (cut : List (List Link)) (round shard : ℕ) (labels : List ℕ) (answer : AnswerValue) : Type 0 where
  pub round_is : answer.round ≡ round
  pub shard_is : answer.shard ≡ shard
  pub light : AreLightOffers (links_at cut shard) labels answer.offers
