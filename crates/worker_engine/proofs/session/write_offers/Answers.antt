use Rattle.std.proofs.Common.{arith}
use Rattle.std.proofs.lemmas.Result.{err_from_is_err_and}
use Rattle.worker_engine.proofs.Pieces.{wrote_more, wrote_then_cut}
use Rattle.worker_engine.proofs.session.write_offers.Goals as goal

pub returns-in_err-rest-2-clause-cut : goal.returns-in_err-rest-2-clause-cut
returns-in_err-rest-2-clause-cut g c =
    let p = err_from_is_err_and c.from_residual-in_err-rest-2.result c.from_residual-in_err-rest-2.ensures.1 in
    rw p.1 (wrote_then_cut c.args.head.now c.args.offers.now c.loop-rest.rest.now _ _ _ c.loop-rest.invariant.some c.in_err-rest-2.ensures.cut)

pub loop-rest-preserved : goal.loop-rest-preserved
loop-rest-preserved g c = search (arith, wrote_more)
