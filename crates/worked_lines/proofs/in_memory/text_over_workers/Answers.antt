use Rattle.std.proofs.Common.{rules, ap, ℕ, List, Some, refl}
use Rattle.std.proofs.lemmas.Result.{err_from_is_err_and}
use Rattle.byte_streams.specs.Streams.{only_held}
use Rattle.forest_run.specs.LinesRun.{IsServedReport}
use Rattle.worked_lines.proofs.Engines.{text_is, unhindered}
use Rattle.worked_lines.proofs.in_memory.text_over_workers.Goals as goal

pub returns-in_err-run_lines-clause-ends_well : goal.returns-in_err-run_lines-clause-ends_well
returns-in_err-run_lines-clause-ends_well g c =
    let p = err_from_is_err_and c.from_residual.result c.from_residual.ensures.1 in
    λ means. rw (p.1, p.2) (unhindered c.in_err-run_lines.field-0.0 _ _
    (c.in_err-run_lines.ensures.ends_well c.in-Ok.ensures.served
    (record { bytes = c.args.bytes.now; has = record { known = refl; no_failure = (0, refl, refl); within = means.file.within }; means = means })))

pub returns-clause-text : goal.returns-clause-text
returns-clause-text g c =
    text_is (λ graph forest. IsServedReport c.args.cutting graph forest c.in_ok-run_lines.field-0.0) c.args.bytes.now _ _ _ (only_held (Some c.new-text.result.items))
    (only_held (Some c.run_lines.new.sink.items)) refl (ap (λ (l : List ℕ). Some l) (search rules)) refl (c.in_ok-run_lines.ensures.served c.in-Ok.ensures.served)
