use Rattle.std.proofs.Common.{◌≡◌, ap, arith}
use Rattle.gr_text.specs.LinesSoFar.{no_swap}
use Rattle.gr_text.specs.Reader.{ReaderValue}
use Rattle.gr_text.proofs.Feeding.{read_on, feeds_of}
use Rattle.gr_text.proofs.reader.GrReader.line.Goals as goal

pub returns-clause-line_but : goal.returns-clause-line_but
returns-clause-line_but g c = λ swap text read clean.
    let (short, counted, stands) = read_on c.args.self.now text clean read in
    let number : c.self.inside.number ≡ c.args.self.now.number = ap (λ (r : ReaderValue). r.number) c.self.view_is in
    omega (arith, feeds_of text stands.lines stands.part stands.cut, stands.numbered)

pub returns-clause-line : goal.returns-clause-line
returns-clause-line g c = returns-clause-line_but g c no_swap
