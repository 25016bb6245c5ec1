use Rattle.std.proofs.Common.{◌≡◌, ◌++◌, ◌∙◌, ap, sym, ℤ, take, FitsSigned, arith, rules}
use Rattle.std.specs.Int.{w64, from_be_bytes, cast_signed}
use Rattle.std.proofs.lemmas.Int.{to_z-of_z}
use Rattle.frames.specs.FrameText.{i64_text}
use Rattle.frames.proofs.Texts.{i64_split}
use Rattle.frames.proofs.fields.split_i64.Goals as goal

pub returns : goal.returns
returns c =
    let z : ℤ = c.cast_signed.result in
    let rest = c.split_at.result.1.now in
    let value : z ≡ cast_signed w64 (from_be_bytes w64 (take 8 c.args.bytes.now)) = search rules in
    let fits : FitsSigned w64 z = search rules in
    record {
      parts = i64_split c.args.bytes.now rest c.requires (λ i. omega (arith, c.type_inv.bytes i)) c.split_at.ensures.back
          ∙ ap (λ (k : ℤ). i64_text k ++ rest) (sym (to_z-of_z w64 z fits ∙ value));
    }
