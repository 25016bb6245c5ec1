use Rattle.std.proofs.Common.{◌≡◌, false, true, ◌+◌, ◌<◌, ◌≤◌, List, length, set, refl, sym, ap, ◌∙◌, subst, arith}
use Rattle.limits.specs.declared.TheConstants.{MAX_VERTICES}
use Rattle.links.specs.declared.links.Link.{Link}
use Rattle.link_merges.specs.declared.merges.Merge.{Merge}
use Rattle.link_merges.specs.Halves.{row_at, merge_of, AreMergesUpTo}
use Rattle.link_merges.proofs.Counting.{below, few, one_merged, all_merged}
use Rattle.link_merges.proofs.Starting.{few_links, len, points_below, points_to_join, none_merged, all_acyclic, whole}
use Rattle.link_merges.proofs.merges.merges_of.Goals as goal

no_cycle_found : {P : Type 0} → false ≡ true → P
no_cycle_found is = absurd (let no : false ≡ true = is in cc)

pub returns-then-links-n-clause-acyclic : goal.returns-then-links-n-clause-acyclic
returns-then-links-n-clause-acyclic g c = (
  λ is. no_cycle_found is,
  λ acyclic. absurd (let more = c.if-links-n.true in let most = few_links c.args.n c.args.links.now c.requires.ends acyclic in omega (arith, more, most)),
)

pub join-requires-clause-below : goal.join-requires-clause-below
join-requires-clause-below g c =
    points_below c.args.n c.args.links.now c.requires.ends c.as_mut_slice.result.now (c.as_mut_slice.ensures.value ∙ c.in_ok-rows.ensures)
    (length c.as_mut_slice-2.result.now) (ap length c.as_mut_slice-2.ensures.value ∙ c.in_ok-now.ensures.as_many)

pub returns-then-not-join-clause-acyclic : goal.returns-then-not-join-clause-acyclic
returns-then-not-join-clause-acyclic g c = (
  λ is. no_cycle_found is,
  λ acyclic. absurd (c.join.ensures.cycle c.if-not-join.true c.args.n 0 c.args.links.now (omega arith)
      (points_to_join c.args.n c.args.links.now c.requires.ends c.as_mut_slice.result.now (c.as_mut_slice.ensures.value ∙ c.in_ok-rows.ensures)) acyclic),
)

pub loop-i-init : goal.loop-i-init
loop-i-init g c =
    let rows = c.in_ok-rows.rows in
    let links : List Link = c.args.links.now in
    let points = c.as_mut_slice.ensures.value ∙ c.in_ok-rows.ensures in
    subst (AreMergesUpTo c.args.n links 0) (sym (whole rows.len c.join.new.rows rows.items rows.ok.0 (c.join.auto.rows ∙ ap length c.as_mut_slice.ensures.value)))
    (none_merged c.args.n links c.join.new.rows (c.join.auto.rows ∙ len c.args.n links c.requires.ends c.as_mut_slice.result.now points)
    (c.join.ensures.joined c.if-not-join.false c.args.n 0 links (omega arith) (points_to_join c.args.n links c.requires.ends c.as_mut_slice.result.now points)))

pub merge_of-requires-clause-first : goal.merge_of-requires-clause-first
merge_of-requires-clause-first g c =
    subst (λ (rs : List Merge). (row_at rs c.loop-i.i).first < c.args.n + length rs) (sym c.as_slice.ensures.value)
    (below c.args.n c.args.links.now c.requires.ends c.loop-i.i c.loop-i.rows.items c.loop-i-test.true c.loop-i.invariant).0

pub merge_of-requires-clause-second : goal.merge_of-requires-clause-second
merge_of-requires-clause-second g c =
    subst (λ (rs : List Merge). (row_at rs c.loop-i.i).second < c.args.n + length rs) (sym c.as_slice.ensures.value)
    (below c.args.n c.args.links.now c.requires.ends c.loop-i.i c.loop-i.rows.items c.loop-i-test.true c.loop-i.invariant).1

pub merge_of-requires-clause-few : goal.merge_of-requires-clause-few
merge_of-requires-clause-few g c = search (arith, few)

pub loop-i-preserved : goal.loop-i-preserved
loop-i-preserved g c =
    let rows : List Merge = c.loop-i.rows.items in
    let same : c.merge_of.result ≡ merge_of c.args.n rows c.loop-i.i = c.merge_of.ensures ∙ ap (λ (rs : List Merge). merge_of c.args.n rs c.loop-i.i) c.as_slice.ensures.value in
    subst (λ (m : Merge). AreMergesUpTo c.args.n c.args.links.now (c.loop-i.i + 1) (set rows c.loop-i.i m)) (sym same)
    (one_merged c.args.n c.args.links.now c.requires.ends c.loop-i.i rows c.loop-i-test.true c.loop-i.invariant)

pub returns-clause-acyclic : goal.returns-clause-acyclic
returns-clause-acyclic g c = (λ is. all_acyclic c.args.links.now c.loop-i.invariant.none, λ is. refl)

pub returns-clause-merges : goal.returns-clause-merges
returns-clause-merges g c = all_merged c.args.n c.args.links.now c.loop-i.i c.loop-i.rows.items c.loop-i-test.false c.loop-i.invariant
