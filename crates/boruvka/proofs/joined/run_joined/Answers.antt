use Rattle.std.proofs.Common.{arith, refl}
use Rattle.byte_streams.proofs.Streaming.{took_nothing}
use Rattle.boruvka.proofs.Endings.{flushed_at_end}
use Rattle.boruvka.proofs.Joining.{forest_bound, forest_silent, joined_ends, stop_bound, stop_ends, wrote}
use Rattle.boruvka.proofs.joined.run_joined.Goals as goal

pub returns-in-Ok-clause-ends : goal.returns-in-Ok-clause-ends
returns-in-Ok-clause-ends g c =
    joined_ends _ _ _ _ _ c.in-Ok.parts c.write_threads-ended.result c.in-Ok.ensures.joined c.write_end.ensures.status c.write_threads-ended.ensures.written c.write_end.ensures.reported

pub returns-in-Err-clause-ends : goal.returns-in-Err-clause-ends
returns-in-Err-clause-ends g c = stop_ends _ _ _ _ _ _ c.in-Err.fault c.in-Err.ensures.stopped c.write_stop.ensures.status refl c.write_stop.ensures.told

pub returns-in-Ok-clause-kept : goal.returns-in-Ok-clause-kept
returns-in-Ok-clause-kept g c =
    let (graph, written) = wrote _ _ _ _ _ c.in-Ok.parts c.write_threads-ended.result c.in-Ok.ensures.joined c.write_threads-ended.ensures.written in
    let bound = forest_bound graph _ _ _ _ c.write_end.ensures.status written in
    record {
      few = omega (arith, bound);
      plain_status = λ plain. bound;
      silent = forest_silent graph _ _ _ _ c.write_end.ensures.status written;
      flushed = flushed_at_end c.write_threads-ended.result _ _ c.write_end.ensures.status c.write_threads-ended.ensures.flushed;
      quiet = c.write_end.ensures.quiet;
    }

pub returns-in-Err-clause-kept : goal.returns-in-Err-clause-kept
returns-in-Err-clause-kept g c =
    let (some, few) = stop_bound c.in-Err.fault in
    record {
      few = omega (arith, few, c.write_stop.ensures.status);
      plain_status = λ plain. omega (arith, few, c.write_stop.ensures.status);
      silent = λ silent. took_nothing _;
      flushed = λ none. absurd (omega (arith, some, c.write_stop.ensures.status));
      quiet = λ wants none. absurd (omega (arith, some, c.write_stop.ensures.status));
    }
