use Rattle.std.proofs.Common.{◌≡◌, ℕ, ◌++◌, ap, sym, ◌∙◌, subst, refl}
use Rattle.gr_text.specs.LinesSoFar.{no_swap}
use Rattle.gr_text.specs.Reader.{ReaderValue, HasReadBut, Stands, StopsBy}
use Rattle.gr_text.specs.declared.faults.ReadFault.TheVariants as fault
use Rattle.gr_text.proofs.Feeding.{read_on, HasRead-fault, has_stopped, stops_within, too_long, lawful_lines}
use Rattle.gr_text.proofs.reader.GrReader.feed.Goals as goal

pub returns-in-Some-clause-fed_but : goal.returns-in-Some-clause-fed_but
returns-in-Some-clause-fed_but g c = λ swap text read.
    subst (λ (v : ReaderValue). HasReadBut swap v (text ++ c.args.piece.now)) c.self.view_is
    (HasRead-fault _ c.in-Some.fault text c.args.piece.now c.in-Some.is (subst (λ (v : ReaderValue). HasReadBut swap v text) (sym c.self.view_is) read))

pub returns-in-Err-clause-fed_but : goal.returns-in-Err-clause-fed_but
returns-in-Err-clause-fed_but g c = λ swap text read.
    let was = c.self.inside in
    let whole = text ++ c.args.piece.now in
    let limit : was.limit ≡ c.self-2.inside.limit =
    ap (λ (r : ReaderValue). r.limit) c.self.view_is ∙ sym c.read.ensures.limit ∙ ap (λ (r : ReaderValue). r.limit) (sym c.self-2.view_is) in
    let (short, counted, stands) = read_on _ text c.in_default.is (subst (λ (v : ReaderValue). HasReadBut swap v text) (sym c.self.view_is) read) in
    let judged = c.in-Err.ensures.judged swap text (subst (λ (v : ReaderValue). Stands swap v text) c.self.view_is stands) in
    has_stopped _ c.in-Err.fault whole refl (subst (λ (k : ℕ). StopsBy c.in-Err.fault k whole) limit
    (stops_within c.in-Err.fault was.limit was.fed c.min-len.result text c.args.piece.now counted c.self.invariant.1 c.min-len.ensures judged))

pub returns-then-len-piece-clause-fed_but : goal.returns-then-len-piece-clause-fed_but
returns-then-len-piece-clause-fed_but g c = λ swap text read.
    let was = c.self.inside in
    let whole = text ++ c.args.piece.now in
    let limit : was.limit ≡ c.self-2.inside.limit =
    ap (λ (r : ReaderValue). r.limit) c.self.view_is ∙ sym c.read.ensures.limit ∙ ap (λ (r : ReaderValue). r.limit) (sym c.self-2.view_is) in
    let (short, counted, stands) = read_on _ text c.in_default.is (subst (λ (v : ReaderValue). HasReadBut swap v text) (sym c.self.view_is) read) in
    let judged = c.in_default-read.ensures.judged swap text (subst (λ (v : ReaderValue). Stands swap v text) c.self.view_is stands) in
    has_stopped _ fault.TooLong whole refl (subst (λ (k : ℕ). StopsBy fault.TooLong k whole) limit
    (too_long was.limit was.fed c.min-len.result text c.args.piece.now counted c.self.invariant.1 c.min-len.ensures c.if-len-piece.true (lawful_lines _ _ judged)))

pub returns-in-Some-clause-fed : goal.returns-in-Some-clause-fed
returns-in-Some-clause-fed g c = returns-in-Some-clause-fed_but g c no_swap

pub returns-in-Err-clause-fed : goal.returns-in-Err-clause-fed
returns-in-Err-clause-fed g c = returns-in-Err-clause-fed_but g c no_swap

pub returns-then-len-piece-clause-fed : goal.returns-then-len-piece-clause-fed
returns-then-len-piece-clause-fed g c = returns-then-len-piece-clause-fed_but g c no_swap
