-- What a worker stores, and which of its links are live.
use Rattle.std.specs.Prelude.{◌≡◌, ℕ, ◌≤◌, List, length, map, Option, Some, IfSome, IsSome, Result, IfOk, OnOk, OnErr}
use Rattle.std.specs.Ordering.{nat_cmp}
use Rattle.std.specs.BTreeMap.{is_at}
use Rattle.std.specs.Map.{lookup}
use Rattle.limits.specs.declared.TheConstants.{MAX_SHARD_LINKS}
use Rattle.links.specs.declared.links.Link.{Link}
use Rattle.links.specs.Offers.{Offer}
use Rattle.frames.specs.declared.frame.Frame.{Frame}
use Rattle.frames.specs.FrameValue.{FrameValue, value_of}
use Rattle.frames.specs.Lawful.{IsLawful, IsAsk}
use Rattle.frames.specs.FrameStream.{AreLawful}
use Rattle.shard_scans.specs.Live.{KeptShardState, AreOffersOf, IsLive, IsAllLive}
use Rattle.worker_replies.specs.Serving.{ShelfList, shelf_of, shelf_with, IsReply, MayWantMemory, AreReplyTo, replies_in}

-- the links that are stored, whichever are live
abbrev pub shelf_list : List (ℕ × KeptShardState) → ShelfList
shelf_list shards = map (λ (entry : ℕ × KeptShardState). (entry.0, entry.1.links)) shards

-- if the live links of a shard are listed, they are those under these labels
abbrev pub AreAllUnder : List ℕ → List (ℕ × KeptShardState) → Type 0
AreAllUnder labels shards = (s : ℕ) → IfSome (lookup (is_at (nat_cmp s)) shards) (IsLive labels)

abbrev pub AreAllLive : List (ℕ × KeptShardState) → Type 0
AreAllLive shards = (s : ℕ) → IfSome (lookup (is_at (nat_cmp s)) shards) IsAllLive

-- The frame is a lawful reply to an ask about any shard whose links have these offers under its labels.
abbrev pub IsReplyWith : ℕ → ℕ → Option (List Offer) → FrameValue → Type 0
IsReplyWith round shard offers v = (links : List Link) (labels : List ℕ) → length links ≤ MAX_SHARD_LINKS → IsAsk round shard labels
    → AreOffersOf links labels offers → IsReply (Some links) round shard labels v × IsLawful v

-- the shards have the same links as before, and the live links that are listed are those under these labels
pub record KeepsShards (labels : List ℕ) (before after : List (ℕ × KeptShardState)) : Type 0 where
  pub shelf : shelf_list after ≡ shelf_list before
  pub live : AreAllUnder labels after

-- An ask about a shard for which these links are stored got its lawful reply; or there was no memory, and links are
-- stored.
pub record Replies {A E : Type 0} (kept : Option (List Link)) (round shard : ℕ) (labels : List ℕ) (result : Result (Frame A) E) : Type 0 where
  pub reply : IfOk result (λ reply. IsReply kept round shard labels (value_of reply))
  pub lawful : IfOk result (λ reply. IsLawful (value_of reply))
  pub is_kept : OnErr result (IsSome kept)

-- A frame was taken: a shard is stored, or an ask got its lawful reply. Or there was no memory, and nothing changed.
pub record Hears {A E : Type 0} (v : FrameValue) (result : Result (Option (Frame A)) E) (before after : ShelfList) : Type 0 where
  pub shelf : OnOk result (shelf_of after ≡ shelf_with (shelf_of before) v)
  pub reply : IfOk result (λ reply. AreReplyTo (shelf_of before) v (replies_in reply))
  pub lawful : IfOk result (λ reply. AreLawful (replies_in reply))
  pub unchanged : OnErr result (after ≡ before)
  pub wants_memory : OnErr result (MayWantMemory (shelf_of before) v)
