use Rattle.std.proofs.Common.{◌≤◌, length, decimal, ap, arith, length-append}
use Rattle.std.proofs.lemmas.Fmt.{length-decimal-le}
use Rattle.gr_text.proofs.spelled.Spelled.put_signed.Goals as goal

pub put-requires : goal.put-requires
put-requires c =
    let digits : length (decimal c.unsigned_abs.result) ≤ 19 = length-decimal-le 19 c.unsigned_abs.result (omega arith) (omega arith) (omega arith) in
    omega (arith, ap length c.put_number.ensures.digits, length-append (decimal c.unsigned_abs.result) c.args.self.now)

pub returns-then-n-lt0-clause-longer : goal.returns-then-n-lt0-clause-longer
returns-then-n-lt0-clause-longer c =
    let digits : length (decimal c.unsigned_abs.result) ≤ 19 = length-decimal-le 19 c.unsigned_abs.result (omega arith) (omega arith) (omega arith) in
    omega (arith, ap length c.put_number.ensures.digits, ap length c.put.ensures, length-append (decimal c.unsigned_abs.result) c.args.self.now)

pub returns-else-n-lt0-clause-longer : goal.returns-else-n-lt0-clause-longer
returns-else-n-lt0-clause-longer c = search (arith, decimal, length-decimal-le, length-append)
