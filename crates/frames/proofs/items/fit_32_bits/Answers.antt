use Rattle.std.proofs.Common.{Bool, ◌&&◌, ap, ap₂, sym, ◌∙◌, arith}
use Rattle.frames.specs.FrameText.{is_narrow}
use Rattle.frames.proofs.Listed.{narrow_more}
use Rattle.frames.proofs.items.fit_32_bits.Goals as goal

pub loop-link-preserved : goal.loop-link-preserved
loop-link-preserved c = search (arith, ap₂, narrow_more)
