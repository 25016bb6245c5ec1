use Rattle.std.proofs.Common.{arith}
use Rattle.plain_run.specs.Outcomes.{IsLeast}
use Rattle.plain_run.specs.PlainRun.{IsPlainFault, IsPlainReport}
use Rattle.boruvka.proofs.Endings.{flushed_at_end, own_end, run_bound, silent_run, wants_memory_over}
use Rattle.boruvka.proofs.command.run_on.Goals as goal

pub returns-then-chosen-clause-ends : goal.returns-then-chosen-clause-ends
returns-then-chosen-clause-ends g c = rw c.if-chosen.true (record {
  result = c.run_here-ended.result;
  status_is = c.write_end.ensures.status;
  ran = c.run_here-ended.ensures.ran;
  reported = c.write_end.ensures.reported;
  judged = c.run_here-ended.ensures.judged;
})

pub returns-then-chosen-clause-kept : goal.returns-then-chosen-clause-kept
returns-then-chosen-clause-kept g c = record {
  few = run_bound c.run_here-ended.result _ c.write_end.ensures.status;
  plain_status = λ plain.
      own_end IsLeast IsPlainReport IsPlainFault c.run_here-ended.result _ _ _ c.write_end.ensures.status c.run_here-ended.ensures.ran (λ graph round is. cc) (λ graph link is. cc);
  silent = silent_run IsLeast IsPlainReport IsPlainFault c.run_here-ended.result _ _ _ _ _ c.write_end.ensures.status c.run_here-ended.ensures.ran;
  flushed = flushed_at_end c.run_here-ended.result _ _ c.write_end.ensures.status c.run_here-ended.ensures.flushed;
  quiet = c.write_end.ensures.quiet;
}

pub returns-in_default-clause-ends : goal.returns-in_default-clause-ends
returns-in_default-clause-ends g c = rw c.if-chosen.false (wants_memory_over _ _ _ _ _ _ _ c.write_fault.ensures)

pub returns-clause-ends : goal.returns-clause-ends
returns-clause-ends g c = rw c.if-chosen.false (record {
  lines = c.in-Ok.started.0.items;
  few = omega (arith, c.in-Ok.ensures.few, c.workers_beside-reserved.ensures);
  new = c.in-Ok.ensures.unused;
  ends = c.run_started.ensures.ends;
})
