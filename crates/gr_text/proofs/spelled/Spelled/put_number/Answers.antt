use Rattle.std.proofs.Common.{ℕ, ◌≤◌, length, decimal, rules, arith, ap, length-drop, length-append}
use Rattle.std.proofs.lemmas.Fmt.{length-decimal-le}
use Rattle.gr_text.proofs.spelled.Spelled.put_number.Goals as goal

pub write_digits-self-inside-requires : goal.write_digits-self-inside-requires
write_digits-self-inside-requires c =
    let digits : length (decimal c.args.n) ≤ 20 = search (rules, length-decimal-le 20) in
    (omega (arith, ap length c.self.view_is, length-drop c.self.inside.start c.self.inside.bytes, c.self.told), omega (arith, c.self.invariant, c.self.told))

pub returns-clause-longer : goal.returns-clause-longer
returns-clause-longer c =
    let digits : length (decimal c.args.n) ≤ 20 = search (rules, length-decimal-le 20) in
    omega (arith, ap length c.self.view_is, ap length c.write_digits-self-inside.ensures.written, length-append {A = ℕ})

pub returns-clause-few : goal.returns-clause-few
returns-clause-few c = λ small.
    let digits : length (decimal c.args.n) ≤ 10 = length-decimal-le 10 c.args.n (omega arith) (omega arith) (omega arith) in
    omega (arith, ap length c.self.view_is, ap length c.write_digits-self-inside.ensures.written, length-append {A = ℕ})
