use Rattle.std.proofs.Common.{refl, sym, arith}
use Rattle.frames.specs.FrameValue.{AskFrame, value_of}
use Rattle.worker_engine.proofs.Shelves.{under_coarser, may_reply}
use Rattle.worker_engine.proofs.engine.Engine.hear_next.Goals as goal

pub reply_under_par-reply-requires-in-Ok-AskCoarser-clause-live : goal.reply_under_par-reply-requires-in-Ok-AskCoarser-clause-live
reply_under_par-reply-requires-in-Ok-AskCoarser-clause-live g c = search (arith, under_coarser)

pub returns-in-Ok-AskAgain-clause-hears : goal.returns-in-Ok-AskAgain-clause-hears
returns-in-Ok-AskAgain-clause-hears g c = record {
  v = AskFrame c.in-Ok-AskAgain.round c.in-Ok-AskAgain.shard c.self.inside.labels;
  lawful = search arith;
  gave = search arith;
  kept = search arith;
  may = (
    value_of c.reply_or_fault.result,
    refl,
    rw (sym c.self.view_is) (may_reply _ _ _ _ c.reply_under_par-reply.result _ c.reply_under_par-reply.ensures.replies c.reply_or_fault.ensures.reply c.reply_or_fault.ensures.fault),
  );
}

pub returns-in-Ok-AskCoarser-clause-hears : goal.returns-in-Ok-AskCoarser-clause-hears
returns-in-Ok-AskCoarser-clause-hears g c = record {
  v = AskFrame c.in-Ok-AskCoarser.round c.in-Ok-AskCoarser.shard c.in-Ok-AskCoarser.labels;
  lawful = search arith;
  gave = search arith;
  kept = search arith;
  may = (
    value_of c.reply_or_fault-in-Ok-AskCoarser.result,
    refl,
    rw (sym c.self.view_is) (may_reply _ _ _ _ c.reply_under_par-reply-in-Ok-AskCoarser.result _ c.reply_under_par-reply-in-Ok-AskCoarser.ensures.replies
        c.reply_or_fault-in-Ok-AskCoarser.ensures.reply c.reply_or_fault-in-Ok-AskCoarser.ensures.fault),
  );
}
