use Rattle.std.proofs.Common.{◌≡◌, take, arith, rules}
use Rattle.std.specs.Int.{w32, from_be_bytes}
use Rattle.frames.proofs.Texts.{u32_split}
use Rattle.frames.proofs.fields.split_u32.Goals as goal

pub returns-clause-parts : goal.returns-clause-parts
returns-clause-parts c =
    let value : c.from_be_bytes-number.result ≡ from_be_bytes w32 (take 4 c.args.bytes.now) = search rules in
    rw value (u32_split c.args.bytes.now c.split_at.result.1.now c.requires (λ i. omega (arith, c.type_inv.bytes i)) c.split_at.ensures.back)
