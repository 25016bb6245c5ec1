use Rattle.std.proofs.Common.{◌+◌, ◌∷◌, ◌++◌, List, ℕ, length, ap, ◌∙◌, arith}
use Rattle.std.specs.List.{flat_map}
use Rattle.frames.specs.FrameText.{u32_text}
use Rattle.frames.specs.Spellings.{spelled_in}
use Rattle.frames.proofs.Written.{shard_written}
use Rattle.frames.proofs.encoding.shard_head.Goals as goal

pub returns : goal.returns
returns c = search (arith, shard_written)
