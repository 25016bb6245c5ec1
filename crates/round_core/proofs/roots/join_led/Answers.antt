use Rattle.std.proofs.Common.{ℕ, Contains, ◌<◌, length, get_or, arith}
use Rattle.std.proofs.lemmas.List.Elements.{All-contains}
use Rattle.round_theory.specs.Offers.{IsNamed}
use Rattle.round_core.specs.Roots.{IsLedBy}
use Rattle.round_core.proofs.Leading.{rank_of, are_parents, descend_at_first}
use Rattle.round_core.proofs.roots.join_led.Goals as goal

pub jumps-init : goal.jumps-init
jumps-init g c =
    let labels = c.args.picking.labels.now in
    let roots = c.args.picking.roots.now in
    let picks = c.args.picking.picks.now in
    let parents = c.args.parents.now in
    let can = c.requires.can in
    let (heard, are) = can.picked in
    let led = λ (r : ℕ) (r_in : Contains roots r). All-contains (IsLedBy labels picks parents) roots r c.requires.led r_in in
    let leads = λ (r : ℕ) (r_in : Contains roots r). (led r r_in).0 in
    record {
      pointers = search arith;
      parents = are_parents labels (IsNamed heard) picks can.labelled are roots parents can.are_roots leads;
      descend = descend_at_first labels (IsNamed heard) picks can.labelled are roots parents can.are_roots leads;
    }

pub jumps-preserved : goal.jumps-preserved
jumps-preserved g c = record {
  pointers = c.jump.ensures.pointers;
  parents = c.jump.ensures.parents c.args.picking.labels.now c.args.picking.picks.now c.jumps.invariant.parents;
  descend = c.jump.ensures.descend (rank_of c.args.picking.picks.now) c.jumps.invariant.descend;
}
