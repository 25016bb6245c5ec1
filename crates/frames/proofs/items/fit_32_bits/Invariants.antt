use Rattle.std.proofs.Common.{◌≡◌, take}
use Rattle.frames.specs.FrameText.{are_narrow}
use Rattle.frames.proofs.items.fit_32_bits.Given as goal

abbrev pub invariant-loop-link : goal.invariant-loop-link
invariant-loop-link l = l.narrow ≡ are_narrow (take l.link-index l.links)
