use Rattle.std.proofs.Common.{ℕ, List, sym, ◌∙◌, subst, arith}
use Rattle.std.specs.Prelude.{All}
use Rattle.std.proofs.lemmas.List.{with_items_is}
use Rattle.round_theory.specs.Offers.{IsNamed}
use Rattle.round_core.specs.BookValue.{BookValue, hearings}
use Rattle.round_core.specs.Picks.{ArePicks}
use Rattle.round_core.specs.PickNumbers.{IsPickNumber}
use Rattle.round_core.proofs.Books.{can_close, picks_of_numbers}
use Rattle.round_core.proofs.Counts.{are_numbers}
use Rattle.round_core.proofs.book.RoundBook.close.Goals as goal

pub count_answers-requires : goal.count_answers-requires
count_answers-requires g c = search (arith, can_close)

pub of_numbers-requires : goal.of_numbers-requires
of_numbers-requires g c =
    let new = c.count_answers.new.numbers in
    let items = with_items_is c.into_numbers-numbers.result new (c.count_answers.auto.numbers ∙ c.as_mut_slice.ensures.len) in
    subst (λ (us : List ℕ). All IsPickNumber us) (sym items) (are_numbers _ _ new c.count_answers.ensures)

pub returns-clause-picks : goal.returns-clause-picks
returns-clause-picks g c =
    let book = c.self.inside in
    let new = c.count_answers.new.numbers in
    let value : BookValue = record { round = book.round; cut = book.cut.now; labels = book.labels.now; taken = book.taken.items; answers = book.answers.items } in
    let items = with_items_is c.into_numbers-numbers.result new (c.count_answers.auto.numbers ∙ c.as_mut_slice.ensures.len) in
    subst (λ (p : BookValue). ArePicks p.labels (IsNamed (hearings p)) c.of_numbers.result) c.self.view_is
    (picks_of_numbers value book.end_labels c.as_slice.result.now new _ c.of_numbers.result c.self.invariant.same_labels c.as_slice.ensures.value items c.of_numbers.ensures c.count_answers.ensures)
