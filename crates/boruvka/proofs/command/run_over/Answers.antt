use Rattle.std.proofs.Common.{arith}
use Rattle.forest_run.specs.LinesRun.{IsLinesFault, IsServedFault}
use Rattle.forest_run.specs.declared.cutting.Cutting.TheVariants.{Even}
use Rattle.boruvka.proofs.Endings.{done_status, flushed_at_end, own_end, refused_status, run_bound, silent_run, status_by_report}
use Rattle.boruvka.proofs.command.run_over.Goals as goal

pub returns-clause-ends : goal.returns-clause-ends
returns-clause-ends g c = search (arith, status_by_report)

pub returns-clause-kept : goal.returns-clause-kept
returns-clause-kept g c =
    let status = status_by_report _ _ c.run_lines.result c.without_lines-ended.ensures c.write_end.ensures.status in
    record {
      few = run_bound c.run_lines.result _ status;
      plain_status = λ plain. absurd (cc);
      silent = silent_run _ _ (IsLinesFault _ g.L.Line (Even c.args.shards) c.args.lines.items) c.run_lines.result _ _ _ _ _ status c.run_lines.ensures.ran;
      flushed = flushed_at_end c.run_lines.result _ _ status c.run_lines.ensures.flushed;
      quiet = c.write_end.ensures.quiet;
    }

pub returns-clause-malformed : goal.returns-clause-malformed
returns-clause-malformed g c = search (arith, refused_status, status_by_report)

pub returns-clause-blameless : goal.returns-clause-blameless
returns-clause-blameless g c = λ served five.
    let status = status_by_report _ _ c.run_lines.result c.without_lines-ended.ensures c.write_end.ensures.status in
    let few = own_end _ _ (IsServedFault (Even c.args.shards)) c.run_lines.result _ _ _ status (c.run_lines.ensures.served served)
    (λ graph round none. none) (λ graph link none. none) in
    absurd (omega (arith, five, few))

pub returns-clause-done : goal.returns-clause-done
returns-clause-done g c = search (arith, done_status, status_by_report)
