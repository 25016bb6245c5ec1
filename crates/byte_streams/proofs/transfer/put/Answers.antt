use Rattle.std.proofs.Common.{rules, arith}
use Rattle.byte_streams.proofs.Streaming.{took_from_rest}
use Rattle.byte_streams.proofs.transfer.put.Goals as goal

pub loop-taken-preserved : goal.loop-taken-preserved
loop-taken-preserved g c =
    let so_far = c.loop-taken.invariant in
    record {
      within = search rules;
      took = took_from_rest 0 _ _ _ _ _ _ so_far.took (c.in-Ok.ensures.took.0 (λ refusal. omega arith));
      can = c.in-Ok.ensures.again (λ refusal. omega arith);
    }
