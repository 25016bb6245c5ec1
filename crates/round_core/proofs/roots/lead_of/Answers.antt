use Rattle.std.proofs.Common.{sym, inl, inr}
use Rattle.round_theory.specs.Offers.{IsNamed}
use Rattle.round_core.proofs.Leading.{picked_at, is_taker, is_led}
use Rattle.round_core.proofs.roots.lead_of.Goals as goal
use Rattle.round_core.proofs.roots.lead_of.Goals.{then-paired-lesser, else-paired-lesser}

pub other_label-other-requires-clause-ends : goal.other_label-other-requires-clause-ends
other_label-other-requires-clause-ends g c =
    let (heard, are) = c.requires.picks in
    are.ends c.in-Some.link (picked_at c.args.labels.now (IsNamed heard) c.args.picks.now c.requires.labels are c.args.root c.in-Some.link (sym c.in-Some.ensures))

pub returns-clause-led : goal.returns-clause-led
returns-clause-led g c =
    let (heard, are) = c.requires.picks in
    let led = is_led c.args.labels.now (IsNamed heard) c.args.picks.now c.requires.labels are c.args.root c.other_label-other.result c.in-Some.link c.requires.root.0
    (sym c.in-Some.ensures) c.other_label-other.ensures.other c.are_same-paired.result c.if-paired-lesser.parent c.are_same-paired.ensures in
    elim c.if-paired-lesser.branch [
      | then-paired-lesser w ↦ led (inl (w.if-paired-lesser.true, w.parent-is))
      | else-paired-lesser w ↦ led (inr (w.if-paired-lesser.false, w.parent-is))
    ]

pub returns-clause-gives : goal.returns-clause-gives
returns-clause-gives g c =
    let (heard, are) = c.requires.picks in
    is_taker c.args.labels.now (IsNamed heard) c.args.picks.now c.requires.labels are c.args.root c.other_label-other.result c.in-Some.link c.requires.root.0
    (sym c.in-Some.ensures) c.other_label-other.ensures.other c.are_same-paired.result c.other_label-other.ensures.root.0.0 c.are_same-paired.ensures
