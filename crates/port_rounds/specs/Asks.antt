-- What asks did to a port.
use Rattle.std.specs.Prelude.{◌≡◌, ℕ, ◌+◌, ◌<◌, ◌≤◌, ◌⊎◌, true, false, List, [], ◌++◌, length, map, All, AllPairs, IsSome, IfSome, Option, Some, None, option_to_list}
use Rattle.links.specs.AnswerValue.{AnswerValue}
use Rattle.round_core.specs.BookValue.{BookValue, refusal, is_taken}
use Rattle.round_theory.specs.declared.port.Port as Port
use Rattle.round_theory.specs.Ports.{PortState, IsHonestAnswer}
use Rattle.round_theory.specs.Exchanges.{Exchange, answers_of}
use Rattle.port_rounds.specs.Lanes.{count_if}

-- the ask is of the book's round, about a shard that it misses
pub record IsAskOf (value : BookValue) (ask : ℕ × ℕ) : Type 0 where
  pub round : ask.0 ≡ value.round
  pub within : ask.1 < length value.cut
  pub missed : is_taken value ask.1 ≡ false

-- an exchange whose ask is one of the book's, under its labels
pub record IsExchangeOf (value : BookValue) (exchange : Exchange) : Type 0 where
  pub ask : IsAskOf value (exchange.round, exchange.shard)
  pub labels : exchange.labels ≡ value.labels

-- an exchange whose answer the book also takes for the shard of the ask
pub record TakesExchange (value : BookValue) (exchange : Exchange) : Type 0 where
  pub asked : IsExchangeOf value exchange
  pub taken : refusal value exchange.shard exchange.answer ≡ None

-- the last ask of a port got an answer that the book rejects for the shard of the ask
pub record RefusesExchange (value : BookValue) (last : ℕ × ℕ) (exchange : Exchange) : Type 0 where
  pub last_is : last ≡ (exchange.round, exchange.shard)
  pub asked : IsExchangeOf value exchange
  pub refused : IsSome (refusal value exchange.shard exchange.answer)

-- an ask of the book, the last one of a port, got no answer, or one that the book rejects
abbrev pub ClosesPort : BookValue → ℕ × ℕ → Option Exchange → Type 0
ClosesPort value last None = IsAskOf value last
ClosesPort value last (Some exchange) = RefusesExchange value last exchange

-- the book takes the answer
pub record Takes (value : BookValue) (answer : AnswerValue) : Type 0 where
  pub within : answer.shard < length value.cut
  pub taken : refusal value answer.shard answer ≡ None

-- the answer has the light offers of its shard, and is of the book's round
abbrev pub IsLight : BookValue → AnswerValue → Type 0
IsLight value answer = IsHonestAnswer value.cut value.round answer.shard value.labels answer

-- both answers are for the same shard in the same round
abbrev pub SameShard : AnswerValue → AnswerValue → Type 0
SameShard answer other = (answer.round ≡ other.round) × (answer.shard ≡ other.shard)

-- the shards that the answers name
abbrev pub shards_of : List AnswerValue → List ℕ
shards_of answers = map (λ answer. answer.shard) answers

-- how many asks failed or had no memory
abbrev pub faults_of : PortState → ℕ
faults_of port = port.failures + port.wants

-- another ask failed or had no memory
abbrev pub MoreFaults : PortState → PortState → Type 0
MoreFaults before after = faults_of before < faults_of after

-- no ask failed, and all had memory
pub record SameFaults (before after : PortState) : Type 0 where
  pub failures : after.failures ≡ before.failures
  pub wants : after.wants ≡ before.wants

-- no exchange is of an earlier round than one before it
abbrev pub AreInRounds : List Exchange → Type 0
AreInRounds exchanges = AllPairs (λ earlier later. earlier.round ≤ later.round) exchanges

-- all asks that were answered: those whose answers were kept, and the one whose answer is rejected, if there is one
abbrev pub answered : List Exchange → Option Exchange → List Exchange
answered exchanges refused = exchanges ++ option_to_list refused

-- A port before and after asks of which these answers were kept. An answer that wasn't kept is one that a book rejects,
-- which closed the port.
pub record AnswersAsks {P A : Type 0} (port : Port.Ghosts P A) (keeping : Exchange → Type 0) (closing : ℕ × ℕ → Option Exchange → Type 0)
    (before after : P) (kept : List AnswerValue) : Type 0 where
  pub cut : (port.state after).cut ≡ (port.state before).cut
  pub worker : (port.state after).worker ≡ (port.state before).worker
  -- each ask brought an answer that was kept, except the one that closed the port
  pub asks : (port.state after).asks + count_if (port.state after).is_open
      ≡ (port.state before).asks + length kept + count_if (port.state before).is_open
  pub failures : (port.state before).failures ≤ (port.state after).failures
  pub wants : (port.state before).wants ≤ (port.state after).wants
  -- at most one of the asks failed or had no memory, and none did if the port was closed before
  pub one_fault : faults_of (port.state after) ≤ faults_of (port.state before) + count_if (port.state before).is_open
  -- The asks whose answers were kept, in their order, which is that of their rounds. The book takes each for the shard
  -- of the ask.
  pub exchanges : List Exchange
  pub kept_are : kept ≡ answers_of exchanges
  pub keeps : All keeping exchanges
  pub ordered : AreInRounds exchanges
  -- the ask whose answer is rejected, if there is one
  pub refused : Option Exchange
  -- as long as it is open, both counts stay, and no answer was rejected
  pub opened : (port.state after).is_open ≡ true
      → ((port.state before).is_open ≡ true) × SameFaults (port.state before) (port.state after) × (refused ≡ None)
  -- after it is closed, it isn't asked any more
  pub still : (port.state before).is_open ≡ false
      → (exchanges ≡ []) × (refused ≡ None) × ((port.state after).last ≡ (port.state before).last)
  -- if no ask failed or had no memory, these are exactly the asks that it answered in addition
  pub given : SameFaults (port.state before) (port.state after)
      → (others : List Exchange) → port.exchanged before others → port.exchanged after (others ++ answered exchanges refused)
  pub honest_is : port.honest before → port.honest after
  -- if it failed later, it is known what it answered before, and why it failed
  pub sound_is : (ends : ℕ) (others : List Exchange)
      → port.sound before ends others → port.sound after ends (others ++ answered exchanges refused)
  -- why it was closed: its last ask failed, had no memory, or brought an answer that is rejected, which no honest port
  -- returns
  pub why : (port.state before).is_open ≡ true → (port.state after).is_open ≡ false
      → (MoreFaults (port.state before) (port.state after) × (refused ≡ None) × closing (port.state after).last None)
      ⊎ ((exchange : Exchange) × (refused ≡ Some exchange) × SameFaults (port.state before) (port.state after)
      × closing (port.state after).last (Some exchange))
  pub why_honest : port.honest before → (port.state before).is_open ≡ true → (port.state after).is_open ≡ false
      → MoreFaults (port.state before) (port.state after)

-- What a ferry's ask of an open port about a shard did, and its answer if that is kept. Then the book takes it, the
-- port stays open, and the answer of an honest port is light.
pub record AsksFor {P A : Type 0} (port : Port.Ghosts P A) (value : BookValue) (shard : ℕ) (before after : P) (kept : Option AnswerValue) : Type 0 where
  pub asked : AnswersAsks port (TakesExchange value) (ClosesPort value) before after (option_to_list kept)
  pub of_shard : IfSome kept (λ a. a.shard ≡ shard)
  pub opened : IfSome kept (λ a. (port.state after).is_open ≡ true)
  pub taken : IfSome kept (Takes value)
  pub light : IfSome kept (λ a. port.honest before → IsLight value a)
