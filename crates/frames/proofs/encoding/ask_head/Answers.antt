use Rattle.std.proofs.Common.{◌++◌, List, ℕ, ap, ◌∙◌, arith}
use Rattle.std.specs.List.{flat_map}
use Rattle.frames.specs.FrameText.{u32_text}
use Rattle.frames.proofs.Written.{ask_written}
use Rattle.frames.proofs.encoding.ask_head.Goals as goal

pub returns : goal.returns
returns g c = search (arith, ask_written)
