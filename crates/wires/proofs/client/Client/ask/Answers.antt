use Rattle.std.proofs.Common.{refl, sym, arith}
use Rattle.std.proofs.lemmas.Result.{err_from_is_err_and}
use Rattle.wires.proofs.OneAsk.{hello_came, unsent_ask, asked_so_far, asked_of, cause_of}
use Rattle.wires.proofs.client.Client.ask.Goals as goal

pub returns-clause-asked : goal.returns-clause-asked
returns-clause-asked g c =
    let so_far = asked_so_far g.L.Line.state c.args.round c.args.shard c.args.labels.now _ _ c.shard-part.result.number _ _ _ _ c.shard-part.ensures.number c.shard-part.ensures.links
    c.in_ok-version.ensures.step.went c.in_ok-version.ensures.known c.in_ok-check_version.ensures.has c.in_ok-send_shard.ensures.step.went c.in_ok-send_ask.ensures.step.went in
    let greeted = hello_came _ _ _ c.in_ok-version.ensures.known refl c.in_ok-version.ensures.stays in
    rw (sym c.self.view_is) (asked_of g.L.Line.state c.args.round c.args.shard c.args.labels.now _ _ _ so_far _ greeted c.hear_answer.result c.shard-part.result.number
    c.shard-part.ensures.number c.in_ok-send_shard.ensures.sent refl refl c.hear_answer.ensures.step.went c.hear_answer.ensures.lawful)

pub returns-clause-cause : goal.returns-clause-cause
returns-clause-cause g c =
    let so_far = asked_so_far g.L.Line.state c.args.round c.args.shard c.args.labels.now _ _ c.shard-part.result.number _ _ _ _ c.shard-part.ensures.number c.shard-part.ensures.links
    c.in_ok-version.ensures.step.went c.in_ok-version.ensures.known c.in_ok-check_version.ensures.has c.in_ok-send_shard.ensures.step.went c.in_ok-send_ask.ensures.step.went in
    let greeted = hello_came _ _ _ c.in_ok-version.ensures.known refl c.in_ok-version.ensures.stays in
    rw (sym c.self.view_is) (cause_of g.L.Line.state c.args.round c.args.shard c.args.labels.now _ _ _ so_far _ greeted c.hear_answer.result c.hear_answer.ensures.step.fault)

pub returns-in_err-send_ask-clause-cause : goal.returns-in_err-send_ask-clause-cause
returns-in_err-send_ask-clause-cause g c =
    let p = err_from_is_err_and c.from_residual-in_err-send_ask.result c.from_residual-in_err-send_ask.ensures.1 in
    let greeted = hello_came _ _ _ c.in_ok-version.ensures.known refl c.in_ok-version.ensures.stays in
    rw (p.1, p.2, sym c.self.view_is) (unsent_ask g.L.Line.state c.args.round c.args.shard c.args.labels.now _ _ _ c.shard-part.result.number _ _ _ _ c.shard-part.ensures.number
    c.shard-part.ensures.links c.in_ok-version.ensures.step.went greeted c.in_ok-check_version.ensures.has c.in_ok-send_shard.ensures.step.went c.in_err-send_ask.ensures.step.fault)

pub returns-clause-faithful : goal.returns-clause-faithful
returns-clause-faithful g c = search arith
