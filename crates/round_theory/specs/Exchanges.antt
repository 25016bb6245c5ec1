-- What a port was asked, and what it answered.
use Rattle.std.specs.Prelude.{◌≡◌, ℕ, List, [], ◌∷◌, ◌++◌, map, Contains}
use Rattle.links.specs.AnswerValue.{AnswerValue}

-- an exchange: an ask of a round about a shard under labels, and its answer
pub record Exchange : Type 0 where
  pub round : ℕ
  pub shard : ℕ
  pub labels : List ℕ
  pub answer : AnswerValue

-- the exchange of this ask and this answer
abbrev pub exchange_of : (round shard : ℕ) (labels : List ℕ) → AnswerValue → Exchange
exchange_of round shard labels answer = record { round = round; shard = shard; labels = labels; answer = answer }

-- the answers, in the order of their exchanges
abbrev pub answers_of : List Exchange → List AnswerValue
answers_of exchanges = map (λ exchange. exchange.answer) exchanges

-- one of the exchanges is about the shard
abbrev pub IsAskedIn : List Exchange → ℕ → Type 0
IsAskedIn exchanges shard = (exchange : Exchange) × Contains exchanges exchange × (exchange.shard ≡ shard)

-- ---- relations of two facts about exchanges, one before a call and one after it

-- what was true of some exchanges is still true of them
abbrev pub KeepsExchanges : (before after : List Exchange → Type 0) → Type 0
KeepsExchanges before after = (exchanges : List Exchange) → before exchanges → after exchanges

-- what was true of some exchanges is now true of them with this one appended
abbrev pub AddsExchange : (before after : List Exchange → Type 0) → Exchange → Type 0
AddsExchange before after exchange = (exchanges : List Exchange) → before exchanges → after (exchanges ++ exchange ∷ [])

-- the same two, for facts that also say how many ends a line had found, a number that doesn't change
abbrev pub StaysSound : (before after : ℕ → List Exchange → Type 0) → Type 0
StaysSound before after = (ends : ℕ) → KeepsExchanges (before ends) (after ends)

abbrev pub StaysSoundWith : (before after : ℕ → List Exchange → Type 0) → Exchange → Type 0
StaysSoundWith before after exchange = (ends : ℕ) → AddsExchange (before ends) (after ends) exchange
