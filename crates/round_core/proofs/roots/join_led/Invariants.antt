use Rattle.std.specs.List.{sum_by}
use Rattle.round_core.specs.Roots.{ArePointers, AreParents, Descend}
use Rattle.round_core.proofs.Leading.{rank_of}
use Rattle.round_core.proofs.roots.join_led.Given as goal

abbrev pub invariant-jumps : goal.invariant-jumps
invariant-jumps g l = record {
  pointers : ArePointers l.picking.roots.now l.parents;
  parents : AreParents l.picking.labels.now l.picking.roots.now l.picking.picks.now l.parents;
  descend : Descend l.picking.roots.now (rank_of l.picking.picks.now) l.parents;
}

abbrev pub decreases-jumps : goal.decreases-jumps
decreases-jumps g l = sum_by (rank_of l.picking.picks.now) l.parents
