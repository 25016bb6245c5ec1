use Rattle.std.proofs.Common.{rules, arith}
use Rattle.std.proofs.lemmas.Result.{err_from_is_err_and}
use Rattle.gr_text.proofs.ForestLines.{header_out, header_prefix, lines_more, lines_prefix, lines_out, lines_flushed, lines_unflushed, stopped}
use Rattle.gr_text.proofs.writer.write_lines.Goals as goal

pub returns-in_err-written : goal.returns-in_err-written
returns-in_err-written g c = search (arith, err_from_is_err_and, stopped, header_prefix)

pub loop-left-init : goal.loop-left-init
loop-left-init g c = search (arith, header_out)

pub returns-in_err-total : goal.returns-in_err-total
returns-in_err-total g c =
    let p = err_from_is_err_and c.from_residual-in_err-total.result c.from_residual-in_err-total.ensures.1 in
    rw (p.1, p.2) (stopped _ _ _ _ _ _ (lines_prefix _ _ _ _ _ _ _ c.loop-left.invariant.out c.in_err-total.ensures.put.part))

pub loop-left-preserved : goal.loop-left-preserved
loop-left-preserved g c = search (arith, lines_more)

pub returns-in-Ok : goal.returns-in-Ok
returns-in-Ok g c = record {
  whole = lines_flushed _ _ _ _ _ _ c.loop-left.invariant.out (search rules) c.in-Ok.ensures.took;
  count = (lines_out _ _ _ _ _ c.loop-left.invariant.out (search rules)).1;
  flushed = c.in-Ok.ensures.flushed;
  part = tt;
  ends_ok = λ none. search rules;
  again = c.in-Ok.ensures.again;
}

pub returns-in-Err : goal.returns-in-Err
returns-in-Err g c = stopped _ _ _ _ _ _ (lines_unflushed _ _ _ _ _ _ c.loop-left.invariant.out (search rules) c.in-Err.ensures.took)
