use Rattle.std.proofs.Common.{◌≡◌, ◌++◌, ap, ◌∙◌, rules}
use Rattle.std.specs.Int.{w32, cast_unsigned}
use Rattle.frames.specs.FrameText.{u32_text, link_text}
use Rattle.frames.proofs.Listed.{three_joined}
use Rattle.frames.proofs.items.put_narrow_link.Goals as goal

pub returns-clause-put : goal.returns-clause-put
unfolding u32_text
returns-clause-put g c =
    let bits : c.cast_unsigned.result ≡ cast_unsigned w32 c.args.link.now.weight = search rules in
    let fields : c.as_flattened.result.now ≡ link_text c.args.link.now =
    three_joined _ _ _ _ _ _ _ c.as_flattened.ensures.value c.to_be_bytes.ensures c.to_be_bytes-2.ensures (c.to_be_bytes-3.ensures ∙ ap u32_text bits) in
    c.put_bytes.ensures.put ∙ ap (λ t. c.args.text.now.items ++ t) fields
