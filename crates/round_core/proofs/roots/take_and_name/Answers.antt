use Rattle.std.proofs.Common.{◌≡◌, ◌<◌, length, get_or, refl, sym, ap, ◌∙◌, subst, arith}
use Rattle.std.proofs.lemmas.List.{with_items_is}
use Rattle.round_core.specs.Roots.{Relabels}
use Rattle.round_core.proofs.Naming.{roots_below, least_joined, relabels}
use Rattle.round_core.proofs.roots.take_and_name.Goals as goal

pub lead_each-requires-clause-within : goal.lead_each-requires-clause-within
lead_each-requires-clause-within g c =
    let labels = c.args.picking.labels.now in
    let room : length labels < length c.make_room.new.numbers.items = c.in_ok-make_room.ensures in
    roots_below labels c.args.picking.roots.now (length labels) (length c.as_mut_slice-names.result.now) refl (omega (arith, room, ap length c.as_mut_slice-names.ensures.value)) c.requires.are_roots

pub name_roots-requires-clause-room : goal.name_roots-requires-clause-room
name_roots-requires-clause-room g c =
    let labels = c.args.picking.labels.now in
    let room : length labels < length c.make_room-2.new.numbers.items = c.in_ok-make_room-2.ensures in
    roots_below labels c.args.picking.roots.now (length labels) (length c.deref_mut.result.now) refl (omega (arith, room, ap length c.deref_mut.ensures.value)) c.requires.are_roots

pub returns-clause-names : goal.returns-clause-names
returns-clause-names g c =
    let labels = c.args.picking.labels.now in
    let roots = c.args.picking.roots.now in
    let picks = c.args.picking.picks.now in
    let names = c.name_roots.new.parents in
    let can = c.requires in
    let long : length names ≡ length c.as_mut_slice-names.result.now = c.name_roots.auto.parents ∙ c.join_led.auto.parents ∙ c.lead_each.auto.parents in
    let room : length labels < length c.make_room.new.numbers.items = c.in_ok-make_room.ensures in
    let below = roots_below labels roots (length labels) (length names) refl (omega (arith, room, long, ap length c.as_mut_slice-names.ensures.value)) can.are_roots in
    subst (Relabels labels picks) (sym (with_items_is c.make_room.new.numbers names (long ∙ c.as_mut_slice-names.ensures.len)))
    (relabels labels roots names picks can.labelled can.are_roots below (λ r root.
    least_joined labels roots c.join_led.new.parents picks can.labelled can.are_roots c.join_led.ensures.parents c.join_led.ensures.settled r
    (get_or names r 0) root (c.name_roots.ensures r ((can.are_roots.exact r).1 root))))
