use Rattle.std.proofs.Common.{ℕ, length, map, sym, ap, ◌∙◌, subst}
use Rattle.std.specs.Prelude.{List, Option, All}
use Rattle.std.proofs.lemmas.List.{with_items_is}
use Rattle.links.specs.declared.links.Link.{Link}
use Rattle.round_core.specs.Picks.{AreNoPicks, HaveAllPicks}
use Rattle.round_core.specs.PickNumbers.{IsPickNumber, AreCleared, pick_in}
use Rattle.round_core.proofs.Clearing.{cleared_are_numbers, cleared_have_none}
use Rattle.round_core.proofs.picks.Picks.clear_each.Goals as goal

pub invariant_of-self : goal.invariant_of-self
invariant_of-self g c =
    let old = c.self.inside.numbers.items in
    let new = c.clear_each.new.numbers in
    let are : AreCleared c.args.labels.now (length c.args.labels.now) old new =
    subst (λ (us : List ℕ). AreCleared c.args.labels.now (length c.args.labels.now) us new) c.as_mut_slice.ensures.value c.clear_each.ensures in
    let items = with_items_is c.self.inside.numbers new (c.clear_each.auto.numbers ∙ c.as_mut_slice.ensures.len) in
    subst (λ (us : List ℕ). All IsPickNumber us) (sym items) (cleared_are_numbers c.args.labels.now old new (c.clear_each.auto.numbers ∙ ap length c.as_mut_slice.ensures.value) are c.self.invariant)

pub returns-clause-none : goal.returns-clause-none
returns-clause-none g c = λ have.
    let old = c.self.inside.numbers.items in
    let new = c.clear_each.new.numbers in
    let are : AreCleared c.args.labels.now (length c.args.labels.now) old new =
    subst (λ (us : List ℕ). AreCleared c.args.labels.now (length c.args.labels.now) us new) c.as_mut_slice.ensures.value c.clear_each.ensures in
    let items = with_items_is c.self.inside.numbers new (c.clear_each.auto.numbers ∙ c.as_mut_slice.ensures.len) in
    let all : HaveAllPicks (map pick_in old) c.args.labels.now = subst (λ (ps : List (Option Link)). HaveAllPicks ps c.args.labels.now) (sym c.self.view_is) have in
    subst (λ (us : List ℕ). AreNoPicks (map pick_in us)) (sym items) (cleared_have_none c.args.labels.now old new (c.clear_each.auto.numbers ∙ ap length c.as_mut_slice.ensures.value) are all)
