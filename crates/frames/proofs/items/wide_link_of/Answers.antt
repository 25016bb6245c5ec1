use Rattle.std.proofs.Common.{ℤ, ◌++◌, ap, ◌∙◌, rules, arith}
use Rattle.std.specs.Int.{w64}
use Rattle.std.proofs.lemmas.Int.{to_z-of_z}
use Rattle.frames.specs.FrameText.{u32_text, i64_text}
use Rattle.frames.proofs.Listed.{link_unlike, wide_link_back}
use Rattle.frames.proofs.items.wide_link_of.Goals as goal

pub returns-then-not-are_ends-clause-none : goal.returns-then-not-are_ends-clause-none
returns-then-not-are_ends-clause-none c =
    link_unlike i64_text c.split_u32-low.result.0 c.split_u32-high.result.0 _ _ _ c.split_u32-low.ensures.fits c.split_u32-high.ensures.fits
    c.split_u32-low.ensures.parts c.split_u32-high.ensures.parts
    (λ from below to. let are = c.are_ends.ensures.1 (from, below, to) in cc)

pub returns-clause-found : goal.returns-clause-found
returns-clause-found c = search (arith, to_z-of_z, wide_link_back)
