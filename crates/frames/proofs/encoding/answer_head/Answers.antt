use Rattle.std.proofs.Common.{◌++◌, List, ℕ, length, ap, ◌∙◌, arith}
use Rattle.std.specs.List.{flat_map}
use Rattle.frames.specs.FrameText.{offer_text}
use Rattle.frames.proofs.Written.{answer_written}
use Rattle.frames.proofs.encoding.answer_head.Goals as goal

pub returns : goal.returns
returns g c = search (arith, answer_written)
