use Rattle.std.proofs.Common.{ℤ, ◌∙◌, rules}
use Rattle.std.specs.Int.{w32, w64}
use Rattle.std.proofs.lemmas.Int.{to_z-of_z}
use Rattle.frames.specs.FrameText.{i32_text}
use Rattle.frames.proofs.Listed.{link_unlike, link_back}
use Rattle.frames.proofs.items.narrow_link_of.Goals as goal

pub returns-then-not-are_ends-clause-none : goal.returns-then-not-are_ends-clause-none
returns-then-not-are_ends-clause-none c =
    link_unlike i32_text c.split_u32-low.result.0 c.split_u32-high.result.0 _ _ _ c.split_u32-low.ensures.fits c.split_u32-high.ensures.fits
    c.split_u32-low.ensures.parts c.split_u32-high.ensures.parts
    (λ from below to. let are = c.are_ends.ensures.1 (from, below, to) in cc)

pub returns-clause-found : goal.returns-clause-found
returns-clause-found c =
    let weight : ℤ = c.from-weight.result in
    let bits : ℤ = c.cast_signed.result in
    link_back _ _ c.split_u32-bits.result.0 _ _ _ _ _ c.split_u32-bits.ensures.fits
    (to_z-of_z w64 weight (search rules) ∙ c.from-weight.ensures ∙ to_z-of_z w32 bits (search rules) ∙ c.cast_signed.ensures)
    c.requires c.split_u32-low.ensures.parts c.split_u32-high.ensures.parts c.split_u32-bits.ensures.parts
