use Rattle.std.proofs.Common.{refl, arith}
use Rattle.std.proofs.lemmas.Result.{err_from_is_err_and}
use Rattle.byte_streams.proofs.Streaming.{gave_nothing}
use Rattle.worker_replies.specs.Serving.{shelf_of}
use Rattle.worker_engine.proofs.Steps.{so_far_starts, so_far_more, ends_at_hello, ends_at_limit, stops_well, stops_by, cuts_by}
use Rattle.worker_engine.proofs.session.serve_upto.Goals as goal

pub returns-in_err-greet-clause-ends_by : goal.returns-in_err-greet-clause-ends_by
returns-in_err-greet-clause-ends_by g c = search (arith, err_from_is_err_and, ends_at_hello, gave_nothing)

pub loop-served-init : goal.loop-served-init
loop-served-init g c = record {
  so_far = rw c.new-engine.ensures.empty (so_far_starts c.args.worker (record { frames = 0; answers = 0; faults = 0 }) _ _ _ refl refl refl (gave_nothing _) c.in_ok-greet.ensures.greeted);
  few = omega arith;
  within = omega arith;
  can_read = c.requires.can_read;
  can_write = c.in_ok-greet.ensures.again;
}

pub returns-in-Err-clause-ends_well : goal.returns-in-Err-clause-ends_well
returns-in-Err-clause-ends_well g c =
    stops_well c.args.worker c.args.frames _ _ _ _ _ (shelf_of c.loop-served.engine) c.loop-served.served c.loop-served.invariant.so_far
    c.in-Err.fault c.stopped.result c.in-Err.ensures.stops c.stopped.ensures.over

pub returns-in-Err-clause-ends_by : goal.returns-in-Err-clause-ends_by
returns-in-Err-clause-ends_by g c =
    stops_by c.args.worker c.args.frames _ _ _ _ _ (shelf_of c.loop-served.engine) c.loop-served.served c.loop-served.invariant.so_far
    c.in-Err.fault c.stopped.result c.in-Err.ensures.stops c.stopped.ensures.stops

pub returns-in_err-written-clause-ends_by : goal.returns-in_err-written-clause-ends_by
returns-in_err-written-clause-ends_by g c =
    let p = err_from_is_err_and c.from_residual-in_err-written.result c.from_residual-in_err-written.ensures.1 in
    rw (p.1, p.2) (cuts_by c.args.worker c.args.frames _ _ _ _ _ (shelf_of c.loop-served.engine) c.loop-served.served c.loop-served.invariant.so_far
    _ _ _ c.in_err-written.field-0.0 c.in-Ok.ensures.hears c.in_err-written.ensures.write c.in_err-written.ensures.cut)

pub loop-served-preserved : goal.loop-served-preserved
loop-served-preserved g c = search (arith, so_far_more)

pub returns-clause-ends_by : goal.returns-clause-ends_by
returns-clause-ends_by g c =
    ends_at_limit c.args.worker _ _ (g.S.Source.state c.loop-served.source) _ _ (g.W.Sink.state c.loop-served.sink) (shelf_of c.loop-served.engine) c.loop-served.served c.args.frames
    (omega (arith, c.loop-served-test.false, c.loop-served.invariant.within)) c.loop-served.invariant.so_far
