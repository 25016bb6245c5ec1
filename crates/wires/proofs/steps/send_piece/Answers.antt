use Rattle.std.proofs.Common.{arith, rules}
use Rattle.wires.proofs.SendingPieces.{parts_fit, awaits_rest}
use Rattle.wires.proofs.steps.send_piece.Goals as goal

pub put_links-requires-clause-fit : goal.put_links-requires-clause-fit
put_links-requires-clause-fit g c = (parts_fit c.args.spelling c.args.links.now _ _ _ c.split_at.ensures.front c.split_at.ensures.back c.requires.awaits.fit).0

pub returns-clause-awaits : goal.returns-clause-awaits
returns-clause-awaits g c =
    awaits_rest c.args.spelling c.args.links.now c.split_at.result.1.now c.args.text.now c.clear.new.self c.requires.awaits
    (parts_fit c.args.spelling c.args.links.now _ _ _ c.split_at.ensures.front c.split_at.ensures.back c.requires.awaits.fit).1
    (omega (arith, c.split_at.ensures.back_len)) c.clear.ensures.len (search rules)
