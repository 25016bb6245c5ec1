use Rattle.std.proofs.Common.{◌≡◌, ◌+◌, ◌↔◌, IsTrue, All, List, Bool, length, sym, ap, ◌∙◌, subst, arith}
use Rattle.links.proofs.InPlace.{written}
use Rattle.link_key.specs.OpenLinks.{AreBetween}
use Rattle.link_key.proofs.Acyclic.{stage_of, components_end, acyclic_end}
use Rattle.link_key.proofs.Opened.{opened_between}
use Rattle.link_key.proofs.sequential.components.components_in_order.Goals as goal

pub join_components-requires-clause-ends : goal.join_components-requires-clause-ends
join_components-requires-clause-ends g c =
    let marks = c.in_ok-marks.marks in
    let as_many : length c.args.links.now ≡ length c.as_mut_slice.result.now = sym (ap length c.as_mut_slice.ensures.value ∙ sym marks.ok.0 ∙ c.in_ok-marks.ensures.len) in
    subst (λ m. AreBetween (c.args.n + 1) m c.in_ok-candidates.candidates.items) as_many
    (opened_between c.in_ok-candidates.ensures c.requires.ends (λ v some most. (some, omega (arith, most))))

pub returns-clause-components : goal.returns-clause-components
returns-clause-components g c =
    let none = c.as_mut_slice.ensures.value ∙ c.in_ok-marks.ensures.items_if_clones_equal (λ y h. h) in
    let found = c.in_ok-components in
    components_end (stage_of c.args.n c.args.links.now c.in_ok-candidates.candidates.items c.as_mut_slice.result.now c.join_components.new.marks found.components.numbers.items
    c.in_ok-candidates.ensures c.requires.ends c.requires.ascending none found.ensures.stage found.ensures.len)

pub returns-clause-acyclic : goal.returns-clause-acyclic
returns-clause-acyclic g c =
    let links = c.args.links.now in
    let marks = c.in_ok-marks.marks in
    let value = c.as_mut_slice.ensures.value in
    let marks' = c.join_components.new.marks in
    let none = value ∙ c.in_ok-marks.ensures.items_if_clones_equal (λ y h. h) in
    let found = c.in_ok-components in
    let as_many : length links ≡ length c.as_mut_slice.result.now = sym (ap length value ∙ sym marks.ok.0 ∙ c.in_ok-marks.ensures.len) in
    let stage = stage_of c.args.n links c.in_ok-candidates.candidates.items c.as_mut_slice.result.now marks' found.components.numbers.items
    c.in_ok-candidates.ensures c.requires.ends c.requires.ascending none found.ensures.stage found.ensures.len in
    let whole = written marks.len marks' marks.items (c.join_components.auto.marks ∙ ap length value) marks.ok.0 in
    let is = acyclic_end marks' c.requires.ascending (as_many ∙ sym c.join_components.auto.marks) stage in
    let said = subst (λ (bs : List Bool). IsTrue c.are_all_marked-taken.result ↔ All IsTrue bs) (c.as_slice.ensures.value ∙ whole) c.are_all_marked-taken.ensures in
    (λ yes. is.0 (said.0 yes), λ acyclic. said.1 (is.1 acyclic))
