use Rattle.std.proofs.Common.{sym, rules, arith}
use Rattle.port_rounds.proofs.OneAsk.{honest_taken, some_of_err, none_of_ok, kept_one, refused_one, failed_one}
use Rattle.port_rounds.proofs.ferry.Ferries.ask_port.Goals as goal

pub returns-in_default : goal.returns-in_default
returns-in_default g c = search (arith, failed_one)

pub returns-then-is_err : goal.returns-then-is_err
returns-then-is_err g c = record {
  asked = refused_one g.P.Port c.args.self.now.book.now c.args.port.now c.round.result c.args.shard c.labels.result.now
      c.round.ensures c.labels.ensures c.requires.shard c.requires.missed c.requires.opened c.ask.new.self c.shut.new.self c.in-Ok.answer
      (some_of_err _ c.judge.result c.judge.ensures.refused (sym c.if-is_err.ensures.value))
      (λ honest. honest_taken c.args.self.now.book.now _ c.round.result c.args.shard c.labels.result.now c.in-Ok.answer c.light_offers_are_taken.ensures
      c.requires.cut c.round.ensures (sym c.labels.ensures) c.requires.missed (c.in-Ok.ensures.honest_answer honest))
      c.in-Ok.ensures.went.1 c.in-Ok.ensures.went.2 c.shut.ensures.went c.shut.ensures.shut c.in-Ok.ensures.exchanged c.shut.ensures.exchanged
      c.ask.ensures.honest c.shut.ensures.honest c.in-Ok.ensures.sound c.shut.ensures.sound;
  of_shard = tt;
  opened = tt;
  taken = tt;
  light = tt;
}

pub returns : goal.returns
returns g c = search (arith, kept_one, none_of_ok)
