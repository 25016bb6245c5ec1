use Rattle.std.proofs.Common.{◌≡◌, List, ◌+◌, ◌<◌, length, get_or, take, refl, sym, subst, arith}
use Rattle.std.proofs.lemmas.List.{get_or_default}
use Rattle.std.proofs.lemmas.List.Elements.{Contains-get_or, All-get_or}
use Rattle.links.specs.declared.links.Link.{Link}
use Rattle.round_core.specs.Roots.{IsLedBy, TakesPicked}
use Rattle.round_core.proofs.Giving.{led_more, next_written, all_given, with_room}
use Rattle.round_core.proofs.roots.lead_each.Goals as goal

pub lead_of-lead-requires-clause-root : goal.lead_of-lead-requires-clause-root
lead_of-lead-requires-clause-root g c = (c.requires.can.are_roots.exact _).0 (Contains-get_or c.args.picking.roots.now c.loop-root.root-index 0 c.loop-root-test.true)

pub loop-root-preserved : goal.loop-root-preserved
loop-root-preserved g c =
    let labels = c.args.picking.labels.now in
    let roots = c.args.picking.roots.now in
    let picks = c.args.picking.picks.now in
    let i = c.loop-root.root-index in
    let lt = c.loop-root-test.true in
    let lead = c.lead_of-lead.result in
    let room : get_or roots i 0 < length c.args.parents.now = All-get_or (λ x. x < length c.args.parents.now) roots i 0 lt c.requires.within in
    record {
      led = led_more labels picks roots c.loop-root.parents i lead.parent
          (omega (arith, room, c.loop-root.auto.parents)) c.lead_of-lead.ensures.led c.lead_of-lead.ensures.root c.loop-root.invariant.led;
      given = next_written picks labels roots i _ c.loop-root.taken.items c.loop-root.count _ lead.link lead.takes
          c.requires.can.are_roots lt c.lead_of-lead.ensures.gives refl c.loop-root.invariant.given;
    }

pub returns-clause-led : goal.returns-clause-led
returns-clause-led g c = λ k d lt.
    subst (IsLedBy c.args.picking.labels.now c.args.picking.picks.now c.loop-root.parents)
    (sym (get_or_default c.args.picking.roots.now k d 0 lt)) (c.loop-root.invariant.led k (omega (arith, lt, c.loop-root-test.false)))

pub returns-clause-once : goal.returns-clause-once
returns-clause-once g c =
    let labels = c.args.picking.labels.now in
    let roots = c.args.picking.roots.now in
    let picks = c.args.picking.picks.now in
    let old = c.args.taken.now.items in
    let long : length old ≡ c.len-count.result = omega (arith, c.len-count.ensures, c.args.taken.now.ok.0) in
    let front : take c.len-count.result c.resize.new.self.items ≡ old =
    with_room old _ c.resize.new.self.items c.len-count.result (c.len-count.result + length roots) long (omega arith) c.in_ok-resize.ensures.items in
    subst (TakesPicked picks (length roots) old) (sym c.truncate.ensures.items)
    (subst (λ (before : List Link). TakesPicked picks (length roots) before (take c.loop-root.count c.loop-root.taken.items)) front
    (all_given picks labels roots c.loop-root.root-index _ c.loop-root.taken.items c.loop-root.count c.requires.can c.loop-root-test.false c.loop-root.invariant.given))
