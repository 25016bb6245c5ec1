use Rattle.std.proofs.Common.{◌≡◌, get_or, rules}
use Rattle.gr_text.proofs.UsualLines.{begins_two, never_head, never_weight, usual_found}
use Rattle.gr_text.proofs.usual_line.usual_arc.Goals as goal

pub returns-in_err-head : goal.returns-in_err-head
returns-in_err-head c =
    let bytes = c.args.bytes.now in
    let letter : get_or bytes 0 0 ≡ 97 = search rules in
    let space : get_or bytes 1 0 ≡ 32 = search rules in
    rw c.from_residual-in_err-head.ensures
    (never_head bytes _ c.in_ok-tail.fields.now c.in_ok-tail.tail (begins_two bytes 97 32 c.in-97.len_at_least letter space) c.in_ok-tail.ensures c.in_err-head.ensures)

pub returns-in_err-weight : goal.returns-in_err-weight
returns-in_err-weight c =
    let bytes = c.args.bytes.now in
    let letter : get_or bytes 0 0 ≡ 97 = search rules in
    let space : get_or bytes 1 0 ≡ 32 = search rules in
    rw c.from_residual-in_err-weight.ensures
    (never_weight bytes _ c.in_ok-tail.fields.now c.in_ok-head.fields.now c.in_ok-tail.tail c.in_ok-head.head (begins_two bytes 97 32 c.in-97.len_at_least letter space)
    c.in_ok-tail.ensures c.in_ok-head.ensures c.in_err-weight.ensures)

pub returns : goal.returns
returns c =
    let bytes = c.args.bytes.now in
    let letter : get_or bytes 0 0 ≡ 97 = search rules in
    let space : get_or bytes 1 0 ≡ 32 = search rules in
    usual_found bytes _ c.in_ok-tail.fields.now c.in_ok-head.fields.now c.in_ok-weight.rest.now c.in_ok-tail.tail c.in_ok-head.head _
    (begins_two bytes 97 32 c.in-97.len_at_least letter space) c.in_ok-tail.ensures c.in_ok-head.ensures
    c.in_ok-weight.ensures
