use Rattle.std.proofs.Common.{◌≡◌, ◌+◌, ◌++◌, ◌≤◌, [], ◌∷◌, List, length, take, sym, ap, ◌∙◌, subst, take_all, arith}
use Rattle.std.proofs.lemmas.List.{take_more}
use Rattle.std.proofs.lemmas.List.Elements.{All-get_or}
use Rattle.links.specs.declared.links.Link.{Link}
use Rattle.round_core.specs.OwnPicks.{AreLeastNumbers}
use Rattle.round_core.proofs.Counts.{none_are_least, counted_none}
use Rattle.round_core.proofs.alone.count_leaving.Goals as goal
use Rattle.round_core.proofs.alone.count_leaving.Goals.{then-of, else-of}

pub loop-link-init : goal.loop-link-init
loop-link-init c = none_are_least c.args.labels.now c.args.numbers.now c.requires.each_vertex c.requires.none

pub loop-link-preserved : goal.loop-link-preserved
loop-link-preserved c =
    let links = c.args.links.now in
    let labels = c.args.labels.now in
    let i = c.loop-link.link-index in
    let l = c.link-item.result in
    let more : take (i + 1) links ≡ take i links ++ l ∷ [] = take_more links i l c.loop-link-test.true ∙ ap (λ x. take i links ++ x ∷ []) (sym c.link-item.is) in
    let end = subst (λ (m : Link). m.high ≤ length labels) (sym c.link-item.is) (All-get_or (λ (m : Link). m.high ≤ length labels) links i l c.loop-link-test.true c.requires.ends) in
    subst (λ (xs : List Link). AreLeastNumbers labels xs c.if-of.numbers) (sym more) (elim c.if-of.branch [
      | then-of w ↦ rw w.numbers-is (w.count.ensures (take i links) c.loop-link.invariant)
      | else-of w ↦ rw w.numbers-is (counted_none labels (take i links) l c.loop-link.numbers end (sym c.of.ensures.label ∙ w.if-of.false ∙ c.of-in-loop-link.ensures.label) c.loop-link.invariant)
    ])

pub returns : goal.returns
returns c = search (arith, take_all)
