-- What an answer says, whatever the layout of its offers in memory.
use Rattle.std.specs.Prelude.{ℕ, List}
use Rattle.links.specs.Offers.{Offer}

-- the round and the shard that were asked about, and the offers
pub record AnswerValue : Type 0 where
  pub round : ℕ
  pub shard : ℕ
  pub offers : List Offer
