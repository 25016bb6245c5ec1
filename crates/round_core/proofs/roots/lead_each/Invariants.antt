use Rattle.std.proofs.Common.{ℕ, ◌<◌, get_or, take}
use Rattle.round_core.specs.Roots.{IsLedBy}
use Rattle.round_core.proofs.Giving.{HaveGiven}
use Rattle.round_core.proofs.roots.lead_each.Given as goal

abbrev pub invariant-loop-root : goal.invariant-loop-root
invariant-loop-root g l = record {
  led : (k : ℕ) → k < l.root-index → IsLedBy l.picking.labels.now l.picking.picks.now l.parents (get_or l.picking.roots.now k 0);
  given : HaveGiven l.picking.picks.now l.picking.roots.now l.root-index (take l.initial.count l.initial.taken.items) l.taken.items l.count;
}
