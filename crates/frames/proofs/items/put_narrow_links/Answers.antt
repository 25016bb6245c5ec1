use Rattle.std.proofs.Common.{ap, ◌∙◌, arith}
use Rattle.frames.specs.FrameText.{is_narrow}
use Rattle.frames.proofs.Listed.{narrow_at}
use Rattle.frames.proofs.items.put_narrow_links.Goals as goal

pub put_narrow_link-requires-clause-fit : goal.put_narrow_link-requires-clause-fit
put_narrow_link-requires-clause-fit g c = search (arith, narrow_at)
