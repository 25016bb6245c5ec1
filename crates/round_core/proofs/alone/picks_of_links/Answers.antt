use Rattle.std.proofs.Common.{ℕ, List, length, refl, sym, ap, ◌∙◌, subst, arith}
use Rattle.std.specs.Prelude.{All}
use Rattle.std.proofs.lemmas.List.{with_items_is}
use Rattle.round_core.specs.PickNumbers.{IsPickNumber}
use Rattle.round_core.proofs.Counts.{are_numbers, picks_are}
use Rattle.round_core.proofs.alone.picks_of_links.Goals as goal

pub count_leaving-requires-clause-each_vertex : goal.count_leaving-requires-clause-each_vertex
count_leaving-requires-clause-each_vertex g c = search arith

pub of_numbers-requires : goal.of_numbers-requires
of_numbers-requires g c =
    let new = c.count_leaving.new.numbers in
    let items = with_items_is c.into_numbers-numbers.result new (c.count_leaving.auto.numbers ∙ c.as_mut_slice.ensures.len) in
    subst (λ (us : List ℕ). All IsPickNumber us) (sym items) (are_numbers _ _ new c.count_leaving.ensures)

pub returns : goal.returns
returns g c =
    let new = c.count_leaving.new.numbers in
    let items = with_items_is c.into_numbers-numbers.result new (c.count_leaving.auto.numbers ∙ c.as_mut_slice.ensures.len) in
    picks_are c.over.result c.args.labels.now c.args.links.now c.args.links.now new _ c.of_numbers.result
    (c.over.ensures ∙ c.as_slice.ensures.labels) refl items c.of_numbers.ensures c.count_leaving.ensures
