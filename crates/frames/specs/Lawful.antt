-- Lawful frames: each field fits its width and obeys the rules of the protocol.
use Rattle.std.specs.Prelude.{ℕ, ◌<◌, ◌≤◌, ◌^◌, ◌*◌, List, length, All}
use Rattle.limits.specs.declared.TheConstants.{MAX_SHARDS, MAX_SHARD_LINKS, MAX_WORKERS}
use Rattle.links.specs.declared.links.Link.{Link}
use Rattle.links.specs.Labels.{AreLabels}
use Rattle.links.specs.Offers.{AreOffers}
use Rattle.frames.specs.declared.frame.TheConstants.{VERSION}
use Rattle.links.specs.AnswerValue.{AnswerValue}
use Rattle.frames.specs.FrameValue.{FrameValue, HelloFrame, ShardFrame, AskFrame, AnswerFrame, FaultFrame}

abbrev pub IsU32 : ℕ → Type 0
IsU32 n = n < 2 ^ 32

-- one of the versions, from the first to this one
pub record IsVersion (v : ℕ) : Type 0 where
  pub from_first : 1 ≤ v
  pub to_this : v ≤ VERSION

pub record IsHello (v w : ℕ) : Type 0 where
  pub version : IsVersion v
  pub worker : w < MAX_WORKERS

-- a shard's number and links; the type of links ensures that endpoints are vertices and that the lower one comes first
pub record IsShard (n : ℕ) (ls : List Link) : Type 0 where
  pub number : n < MAX_SHARDS
  pub count : length ls ≤ MAX_SHARD_LINKS

-- an ask for a shard, with labels of the vertices 1, 2, ..
pub record IsAsk (r s : ℕ) (ls : List ℕ) : Type 0 where
  pub round : IsU32 r
  pub shard : s < MAX_SHARDS
  pub labels : AreLabels ls

-- offers of strictly ascending components, at most one per endpoint of a link, for any shard in any round
pub record IsAnswer (a : AnswerValue) : Type 0 where
  pub round : IsU32 a.round
  pub shard : IsU32 a.shard
  pub count : length a.offers ≤ 2 * MAX_SHARD_LINKS
  pub fit : All (λ o. IsU32 o.0 × IsU32 o.1) a.offers
  pub ascending : AreOffers a.offers

-- one of three codes, for any shard in any round
pub record IsFault (r s c : ℕ) : Type 0 where
  pub round : IsU32 r
  pub shard : IsU32 s
  pub code_from_one : 1 ≤ c
  pub code_to_three : c ≤ 3

abbrev pub IsLawful : FrameValue → Type 0
IsLawful (HelloFrame version worker) = IsHello version worker
IsLawful (ShardFrame number links) = IsShard number links
IsLawful (AskFrame round shard labels) = IsAsk round shard labels
IsLawful (AnswerFrame answer) = IsAnswer answer
IsLawful (FaultFrame round shard code) = IsFault round shard code
