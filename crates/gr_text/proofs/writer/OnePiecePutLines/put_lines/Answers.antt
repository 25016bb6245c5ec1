use Rattle.std.proofs.lemmas.Result.{err_from_is_err_and}
use Rattle.gr_text.proofs.ForestLines.{put_stopped}
use Rattle.gr_text.proofs.writer.OnePiecePutLines.put_lines.Goals as goal

pub returns-in_err-total-clause-put : goal.returns-in_err-total-clause-put
returns-in_err-total-clause-put g c =
    let p = err_from_is_err_and c.from_residual.result c.from_residual.ensures.1 in
    rw (p.1, p.2) (put_stopped _ _ _ _ _ _ _ _ c.spell_lines-spelled.ensures.lines c.in_err-total.ensures.part)
