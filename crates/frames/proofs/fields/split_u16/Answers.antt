use Rattle.std.proofs.Common.{◌≡◌, take, arith, rules}
use Rattle.std.specs.Int.{w16, from_be_bytes}
use Rattle.frames.proofs.Texts.{u16_split}
use Rattle.frames.proofs.fields.split_u16.Goals as goal

pub returns-clause-parts : goal.returns-clause-parts
returns-clause-parts c = search (arith, u16_split)
