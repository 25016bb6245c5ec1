use Rattle.std.proofs.Common.{ap, length, length-append, arith}
use Rattle.std.specs.Char.{encode_utf8}
use Rattle.std.proofs.lemmas.Str.{length-encode, len_utf8_bounds}
use Rattle.program_words.proofs.escapes.push_escaped.Goals as goal

pub push-requires : goal.push-requires
push-requires c = (omega arith, omega (arith, c.requires, length-encode c.args.c, len_utf8_bounds c.args.c))

pub returns-then-not-is_control-clause-short : goal.returns-then-not-is_control-clause-short
returns-then-not-is_control-clause-short c =
    omega (arith, ap length c.push.ensures.bytes, length-append c.args.line.now.bytes (encode_utf8 c.args.c), length-encode c.args.c, len_utf8_bounds c.args.c)
