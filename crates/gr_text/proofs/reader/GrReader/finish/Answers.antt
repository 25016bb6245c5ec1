use Rattle.std.proofs.Common.{sym, subst, ◌∙◌, arith}
use Rattle.std.proofs.lemmas.Bool.{not-true, not-false}
use Rattle.gr_text.specs.LinesSoFar.{no_swap}
use Rattle.gr_text.specs.Reader.{ReaderValue, HasReadBut, FailsBy, IsReadBut}
use Rattle.gr_text.proofs.Feeding.{read_on, stopped_by}
use Rattle.gr_text.proofs.Ending.{fails_of_stops, last_fault, ends_whole, ends_within}
use Rattle.gr_text.proofs.Swaps.{is_read}
use Rattle.gr_text.proofs.reader.GrReader.finish.Goals as goal

pub returns-in-Some-clause-outcome_but : goal.returns-in-Some-clause-outcome_but
returns-in-Some-clause-outcome_but g c = search (arith, fails_of_stops, stopped_by)

pub returns-then-not-partial-clause-outcome_but : goal.returns-then-not-partial-clause-outcome_but
returns-then-not-partial-clause-outcome_but g c = λ swap text read.
    let (short, counted, stands) = read_on _ text c.in_default.is (subst (λ (v : ReaderValue). HasReadBut swap v text) (sym c.self.view_is) read) in
    subst (λ (v : ReaderValue). IsReadBut swap v.limit text c.graph.result) c.self.view_is
    (ends_whole c.graph.result _ _ text short stands (sym stands.kept.0 ∙ not-true _ c.if-not-partial.true) (c.graph.ensures swap stands.lines stands.give))

pub returns-in-Err-clause-outcome_but : goal.returns-in-Err-clause-outcome_but
returns-in-Err-clause-outcome_but g c = λ swap text read.
    let (short, counted, stands) = read_on _ text c.in_default.is (subst (λ (v : ReaderValue). HasReadBut swap v text) (sym c.self.view_is) read) in
    let whole = c.whole.ensures stands.part stands.kept in
    subst (λ (v : ReaderValue). FailsBy c.in-Err.fault v.limit text) c.self.view_is
    (last_fault c.in-Err.fault _ _ text short stands (sym stands.kept.0 ∙ not-false _ c.if-not-partial.false) (c.in-Err.ensures swap stands.lines stands.part stands.give whole))

pub returns-clause-outcome_but : goal.returns-clause-outcome_but
returns-clause-outcome_but g c = λ swap text read.
    let (short, counted, stands) = read_on _ text c.in_default.is (subst (λ (v : ReaderValue). HasReadBut swap v text) (sym c.self.view_is) read) in
    let whole = c.whole.ensures stands.part stands.kept in
    subst (λ (v : ReaderValue). IsReadBut swap v.limit text c.graph-2.result) c.self.view_is
    (ends_within c.graph-2.result _ _ text short stands (sym stands.kept.0 ∙ not-false _ c.if-not-partial.false)
    (c.graph-2.ensures swap _ (c.in_default-take_line.ensures swap stands.lines stands.part stands.give whole)))

pub returns-in-Some-clause-outcome : goal.returns-in-Some-clause-outcome
returns-in-Some-clause-outcome g c = returns-in-Some-clause-outcome_but g c no_swap

pub returns-then-not-partial-clause-outcome : goal.returns-then-not-partial-clause-outcome
returns-then-not-partial-clause-outcome g c = λ text read. is_read c.args.self.limit text c.graph.result (returns-then-not-partial-clause-outcome_but g c no_swap text read)

pub returns-in-Err-clause-outcome : goal.returns-in-Err-clause-outcome
returns-in-Err-clause-outcome g c = returns-in-Err-clause-outcome_but g c no_swap

pub returns-clause-outcome : goal.returns-clause-outcome
returns-clause-outcome g c = λ text read. is_read c.args.self.limit text c.graph-2.result (returns-clause-outcome_but g c no_swap text read)
