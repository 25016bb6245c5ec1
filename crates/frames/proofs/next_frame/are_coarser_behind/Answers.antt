use Rattle.std.proofs.Common.{arith}
use Rattle.std.specs.Prelude.{IsTrue}
use Rattle.frames.proofs.next_frame.are_coarser_behind.Goals as goal

pub is_coarser-requires-clause-below : goal.is_coarser-requires-clause-below
is_coarser-requires-clause-below c = λ u one lt. c.loop-v.invariant.labelled u one (omega arith)

pub returns-then-not-is_coarser : goal.returns-then-not-is_coarser
returns-then-not-is_coarser c = (
  λ t. cc,
  λ all.
      let is : IsTrue c.is_coarser.result = c.is_coarser.ensures.1 (all.labelled c.loop-v.v (omega arith) (omega arith), all.coarser c.loop-v.v (omega arith) (omega arith)) in
      cc,
)
