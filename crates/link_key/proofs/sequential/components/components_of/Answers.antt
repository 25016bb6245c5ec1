use Rattle.std.proofs.Common.{◌≡◌, ◌+◌, ◌≤◌, List, Contains, length, refl, sym, ap, ◌∙◌, subst, arith}
use Rattle.std.specs.List.Sorted.{IsPermutation}
use Rattle.std.proofs.lemmas.Bool.{false≢true}
use Rattle.std.proofs.lemmas.List.Sorted.{All-permutation, Contains-permutation, IsPermutation-sym}
use Rattle.links.specs.declared.links.Link.{Link}
use Rattle.links.specs.Link.{EndsUpTo, IsAscending}
use Rattle.links.specs.LinkSet.{HasNoCycle}
use Rattle.links.proofs.Cycles.{no_cycle_part}
use Rattle.links.proofs.Distinct.{ascending_once}
use Rattle.links.proofs.InPlace.{whole_of}
use Rattle.link_key.specs.Components.{AreComponents, AreLeastVertices}
use Rattle.link_key.specs.OpenLinks.{AreAllNumbers}
use Rattle.link_key.proofs.Firsts.{labels_are, least_vertices, same_components}
use Rattle.link_key.proofs.Once.{ascending_distinct, distinct_permuted}
use Rattle.link_key.proofs.sequential.components.components_of.Goals as goal

-- the sorted links
module _ (links now : List Link) (moved : IsPermutation links now) where
  to_now : HasNoCycle (Contains links) → HasNoCycle (Contains now)
  to_now = no_cycle_part (Contains now) (Contains links) (λ l l_in. Contains-permutation now links l (IsPermutation-sym links now moved) l_in)

  from_now : HasNoCycle (Contains now) → HasNoCycle (Contains links)
  from_now = no_cycle_part (Contains links) (Contains now) (λ l l_in. Contains-permutation links now l moved l_in)

pub returns-then-not-is_ascending-clause-acyclic : goal.returns-then-not-is_ascending-clause-acyclic
returns-then-not-is_ascending-clause-acyclic g c =
    let links = c.args.links in
    let now = c.sort.new.links in
    let sorted = c.sort.ensures in
    let put = whole_of links.len links.items c.as_mut_slice.result.now now links.ok.0 c.as_mut_slice.ensures.value sorted.same in
    let shown : c.as_slice.result.now ≡ now = c.as_slice.ensures.value ∙ put.1 in (
      λ never. absurd (false≢true never),
      λ acyclic. sym c.if-not-is_ascending.true ∙ c.is_ascending.ensures.1 (subst IsAscending (sym shown) (ascending_once links.items now acyclic.0 put.0 sorted.sorted)),
    )

pub components_in_order-requires-clause-ends : goal.components_in_order-requires-clause-ends
components_in_order-requires-clause-ends g c =
    let links = c.args.links in
    let now = c.sort.new.links in
    let put = whole_of links.len links.items c.as_mut_slice.result.now now links.ok.0 c.as_mut_slice.ensures.value c.sort.ensures.same in
    subst (EndsUpTo c.args.n) (sym (c.as_slice-2.ensures.value ∙ put.1)) (All-permutation (λ (l : Link). l.high ≤ c.args.n) links.items now put.0 c.requires.ends)

pub returns-then-not-acyclic-clause-acyclic : goal.returns-then-not-acyclic-clause-acyclic
returns-then-not-acyclic-clause-acyclic g c =
    let links = c.args.links in
    let now = c.sort.new.links in
    let put = whole_of links.len links.items c.as_mut_slice.result.now now links.ok.0 c.as_mut_slice.ensures.value c.sort.ensures.same in
    let shown : c.as_slice-2.result.now ≡ now = c.as_slice-2.ensures.value ∙ put.1 in (
      λ never. absurd (false≢true never),
      λ acyclic. sym c.if-not-acyclic.true ∙ c.in_ok-components.ensures.acyclic.1 (subst (λ (xs : List Link). HasNoCycle (Contains xs)) (sym shown) (to_now links.items now put.0 acyclic.1)),
    )

pub of_known-requires : goal.of_known-requires
of_known-requires g c = search (arith, labels_are)

pub returns-clause-acyclic : goal.returns-clause-acyclic
returns-clause-acyclic g c =
    let links = c.args.links in
    let now = c.sort.new.links in
    let put = whole_of links.len links.items c.as_mut_slice.result.now now links.ok.0 c.as_mut_slice.ensures.value c.sort.ensures.same in
    let up : IsAscending now = subst IsAscending (c.as_slice.ensures.value ∙ put.1) (c.is_ascending.ensures.0 c.if-not-is_ascending.false) in
    let none = subst (λ (xs : List Link). HasNoCycle (Contains xs)) (c.as_slice-2.ensures.value ∙ put.1) (c.in_ok-components.ensures.acyclic.0 c.if-not-acyclic.false) in (
      λ yes. (distinct_permuted now links.items (IsPermutation-sym links.items now put.0) (ascending_distinct now up), from_now links.items now put.0 none),
      λ acyclic. refl,
    )

pub returns-clause-least : goal.returns-clause-least
returns-clause-least g c =
    let links = c.args.links in
    let now = c.sort.new.links in
    let put = whole_of links.len links.items c.as_mut_slice.result.now now links.ok.0 c.as_mut_slice.ensures.value c.sort.ensures.same in
    let found = c.in_ok-components in
    let table = c.as_slice-3.result.now in
    let table_is : table ≡ found.components.numbers.items = c.as_slice-3.ensures.value in
    let components = subst (λ (xs : List Link). AreComponents (Contains xs) found.components.numbers.items) (c.as_slice-2.ensures.value ∙ put.1) found.ensures.components in
    let back = IsPermutation-sym links.items now put.0 in
    let of_links = same_components (Contains now) (Contains links.items) found.components.numbers.items (λ l l_in. Contains-permutation now links.items l back l_in)
    (λ l l_in. Contains-permutation links.items now l put.0 l_in) components in
    subst (AreLeastVertices c.args.n (Contains links.items)) (sym c.of_known.ensures)
    (least_vertices c.args.n found.components.count (Contains links.items) table c.in_ok-labels.labels.items (ap length table_is ∙ found.ensures.len) c.in_ok-labels.ensures.number
    (subst (AreAllNumbers found.components.count) (sym table_is) found.ensures.numbers) (subst (AreComponents (Contains links.items)) (sym table_is) of_links) c.in_ok-labels.ensures.first)
