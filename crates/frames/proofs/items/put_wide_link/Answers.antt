use Rattle.std.proofs.Common.{◌≡◌, ap, ◌∙◌, rules}
use Rattle.std.specs.Int.{w64, to_be_bytes, cast_unsigned}
use Rattle.frames.specs.FrameText.{u32_text, i64_text}
use Rattle.frames.proofs.Listed.{three_put}
use Rattle.frames.proofs.items.put_wide_link.Goals as goal

pub returns-clause-put : goal.returns-clause-put
unfolding u32_text i64_text
returns-clause-put g c =
    let link = c.args.link.now in
    let bits : c.cast_unsigned.result ≡ cast_unsigned w64 link.weight = search rules in
    three_put c.args.text.now.items _ _ _ _ _ _ (u32_text link.low) (u32_text link.high) (i64_text link.weight) c.put_bytes.ensures.put c.put_bytes-2.ensures.put c.put_bytes-3.ensures.put
    c.to_be_bytes.ensures c.to_be_bytes-2.ensures (c.to_be_bytes-3.ensures ∙ ap (to_be_bytes w64) bits)
