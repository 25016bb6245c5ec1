use Rattle.std.proofs.Common.{rules, ap, ℕ, List, Some, refl, arith}
use Rattle.byte_streams.specs.Streams.{only_held}
use Rattle.plain_run.specs.PlainRun.{IsPlainReport}
use Rattle.std.proofs.lemmas.Result.{err_from_is_err_and}
use Rattle.plain_run.proofs.PlainRunning.{fault_in_memory, text_in_memory}
use Rattle.plain_run.proofs.in_memory.plain_text.Goals as goal

pub returns-in_err-run_plain-clause-fault : goal.returns-in_err-run_plain-clause-fault
returns-in_err-run_plain-clause-fault g c =
    let p = err_from_is_err_and c.from_residual.result c.from_residual.ensures.1 in
    rw (p.1, p.2) (fault_in_memory c.in_err-run_plain.field-0.0 c.args.bytes.now _ _ _ _ refl (0, refl, refl) c.in_err-run_plain.ensures.ran)

pub returns-in_err-run_plain-clause-malformed : goal.returns-in_err-run_plain-clause-malformed
returns-in_err-run_plain-clause-malformed g c = search (arith, err_from_is_err_and)

pub returns-in_err-run_plain-clause-lawful : goal.returns-in_err-run_plain-clause-lawful
returns-in_err-run_plain-clause-lawful g c = search (arith, err_from_is_err_and)

pub returns-clause-text : goal.returns-clause-text
returns-clause-text g c =
    text_in_memory (λ graph forest. IsPlainReport graph forest c.in_ok-run_plain.field-0) c.args.bytes.now _ _ _ (only_held (Some c.new-text.result.items))
    (only_held (Some c.run_plain.new.sink.items)) refl (ap (λ (l : List ℕ). Some l) (search rules)) refl c.in_ok-run_plain.ensures.ran

pub returns-clause-malformed : goal.returns-clause-malformed
returns-clause-malformed g c = search arith
