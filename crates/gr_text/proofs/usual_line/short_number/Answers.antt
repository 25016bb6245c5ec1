use Rattle.std.proofs.Common.{◌+◌, subst, sym}
use Rattle.std.proofs.lemmas.List.{take_rest}
use Rattle.gr_text.specs.UsualArc.{BeginsWithShort}
use Rattle.gr_text.proofs.UsualLines.{found_in_front, none_in_front}
use Rattle.gr_text.proofs.usual_line.short_number.Goals as goal

pub returns-in_err-number : goal.returns-in_err-number
returns-in_err-number c = rw c.from_residual.ensures (none_in_front c.args.stop c.args.bytes.now c.in_err-number.ensures)

pub returns : goal.returns
returns c =
    let bytes = c.args.bytes.now in
    let kept = c.in_ok-number.number in
    let place = c.in_ok-number.place in
    subst (BeginsWithShort kept c.args.stop bytes) (sym (take_rest bytes (place + 1))) (found_in_front kept c.args.stop place bytes c.in_ok-number.ensures)
