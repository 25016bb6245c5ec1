use Rattle.std.proofs.Common.{◌++◌, List, ℕ, ap, ◌∙◌}
use Rattle.frames.specs.FrameText.{u32_text}
use Rattle.frames.proofs.encoding.ask_parts.Goals as goal

pub returns-in-Some : goal.returns-in-Some
unfolding u32_text
returns-in-Some g c = ap (λ (t : List ℕ). c.ask_head.result ++ t) c.in-Some.ensures ∙ c.ask_head.ensures
