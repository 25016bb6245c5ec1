-- The shards whose bits are 1.
use Rattle.std.specs.Prelude.{ℕ, ◌==◌, ◌/◌, ◌%◌, Bool, List, slice_index}
use Rattle.std.specs.Int.{bit_at}

-- the bit of the shard is 1: a word has the bits of 64 shards, the lowest bit first
abbrev pub has_shard : List ℕ → ℕ → Bool
has_shard bits shard = bit_at (slice_index bits (shard / 64)) (shard % 64) == 1
