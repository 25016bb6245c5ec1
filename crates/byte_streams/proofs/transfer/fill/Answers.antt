use Rattle.std.proofs.Common.{rules}
use Rattle.byte_streams.proofs.Streaming.{gave_into_rest}
use Rattle.byte_streams.proofs.transfer.fill.Goals as goal

pub loop-filled-preserved : goal.loop-filled-preserved
loop-filled-preserved g c =
    let so_far = c.loop-filled.invariant in
    record {
      within = search rules;
      gave = gave_into_rest 0 0 _ _ _ _ _ _ _ _ so_far.within c.in-Ok.ensures.bound.0 so_far.gave (c.in-Ok.ensures.gave.0 (search rules));
      lasts = λ fact held. c.in-Ok.ensures.lasts fact (so_far.lasts fact held);
      can = c.in-Ok.ensures.again (search rules);
    }
