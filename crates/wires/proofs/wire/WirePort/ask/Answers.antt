use Rattle.std.proofs.Common.{◌≡◌, ◌<◌, ◌+◌, [], ◌∷◌, ◌++◌, refl, sym, ap, subst, rules, arith}
use Rattle.std.specs.Prelude.{true, length}
use Rattle.round_theory.specs.Exchanges.{exchange_of}
use Rattle.wires.proofs.Asking.{exchanged_more}
use Rattle.wires.proofs.Wiring.{answer_counted, cause_counted, quiet_more, faulted_more, answered, served_answer, light_answer, not_closed, failed, blameless_fault}
use Rattle.wires.proofs.wire.WirePort.ask.Goals as goal

pub returns-in-Ok-clause-exchanged : goal.returns-in-Ok-clause-exchanged
returns-in-Ok-clause-exchanged g c =
    rw (sym c.self.view_is) (exchanged_more g.L.Line.state c.args.round c.args.shard c.args.labels.now c.in-Ok.answer _ _ c.in-Ok.ensures.asked)

pub returns-in-Ok-clause-sound : goal.returns-in-Ok-clause-sound
returns-in-Ok-clause-sound g c =
    let live : c.self.inside.is_open ≡ true = search rules in
    let in_cut : c.args.shard < length c.self.inside.client.cut = rw (sym c.self.view_is) at c.requires.shard in
    rw (sym c.self.view_is)
    (λ ends exchanges. answered g.L.Line.state c.args.round c.args.shard c.args.labels.now _ _ in_cut live refl refl c.ask.ensures.shard_lawful
    c.ask.ensures.ask_lawful c.in-Ok.answer c.in-Ok.ensures.asked _ _ ends exchanges refl refl)

pub returns-in-Ok-clause-honest : goal.returns-in-Ok-clause-honest
returns-in-Ok-clause-honest g c =
    let live : c.self.inside.is_open ≡ true = search rules in
    let in_cut : c.args.shard < length c.self.inside.client.cut = rw (sym c.self.view_is) at c.requires.shard in
    rw (sym c.self.view_is) (λ honest.
    let (carries, some) = honest in
    let (ends, exchanges, went) = some in (
      subst (g.L.Line.faithful c.ask.new.self.line) (sym c.ask.ensures.worker) (c.ask.ensures.faithful _ carries),
      (
        ends,
        exchanges ++ exchange_of c.args.round c.args.shard c.args.labels.now c.in-Ok.answer ∷ [],
        answered g.L.Line.state c.args.round c.args.shard c.args.labels.now _ _ in_cut live refl refl c.ask.ensures.shard_lawful
            c.ask.ensures.ask_lawful c.in-Ok.answer c.in-Ok.ensures.asked _ _ ends exchanges refl refl went,
      ),
    ))

pub returns-in-Ok-clause-served : goal.returns-in-Ok-clause-served
returns-in-Ok-clause-served g c =
    let live : c.self.inside.is_open ≡ true = search rules in
    let in_cut : c.args.shard < length c.self.inside.client.cut = rw (sym c.self.view_is) at c.requires.shard in
    rw (sym c.self.view_is) (λ served.
    let ((ends, exchanges, sound), serves) = served in
    served_answer g.L.Line.state c.args.round c.args.shard c.args.labels.now _ _ in_cut live c.ask.ensures.shard_lawful c.ask.ensures.ask_lawful
    c.self.invariant.below _ c.in-Ok.answer c.in-Ok.ensures.asked ends exchanges sound serves)

pub returns-in-Ok-clause-honest_answer : goal.returns-in-Ok-clause-honest_answer
returns-in-Ok-clause-honest_answer g c =
    let live : c.self.inside.is_open ≡ true = search rules in
    let in_cut : c.args.shard < length c.self.inside.client.cut = rw (sym c.self.view_is) at c.requires.shard in
    rw (sym c.self.view_is) (λ honest. light_answer g.L.Line.state c.args.round c.args.shard c.args.labels.now _ _ in_cut live c.ask.ensures.shard_lawful c.ask.ensures.ask_lawful
    c.self.invariant.below _ (g.L.Line.faithful c.self.inside.client.line) (g.L.Line.faithful c.ask.new.self.line) c.ask.ensures.faithful
    (g.met.L.Line.serves c.ask.new.self.line) honest c.in-Ok.answer c.in-Ok.ensures.asked)

pub returns-in-Err-clause-sound_fault : goal.returns-in-Err-clause-sound_fault
returns-in-Err-clause-sound_fault g c =
    let live : c.self.inside.is_open ≡ true = search rules in
    let in_cut : c.args.shard < length c.self.inside.client.cut = rw (sym c.self.view_is) at c.requires.shard in
    rw (sym c.self.view_is)
    (λ ends exchanges. failed g.L.Line.state c.args.round c.args.shard c.args.labels.now _ _ in_cut live refl refl c.in-Err.fault c.in-Err.ensures.cause _ _ ends exchanges
    (not_closed g.L.Line.state c.args.round c.args.shard c.args.labels.now _ _ c.in-Err.fault c.in-Err.ensures.cause) refl c.ask.ensures.cut c.ask.ensures.worker
    (ap (λ n. c.self.inside.failures + n) c.failure_of.ensures) (ap (λ n. c.self.inside.wants + n) c.want_of.ensures))

pub returns-in-Ok-clause-counted : goal.returns-in-Ok-clause-counted
returns-in-Ok-clause-counted g c = search (arith, answer_counted, quiet_more)

pub returns-in-Err-clause-counted : goal.returns-in-Err-clause-counted
returns-in-Err-clause-counted g c = search (arith, cause_counted, faulted_more)

pub returns-in-Err-clause-blameless : goal.returns-in-Err-clause-blameless
returns-in-Err-clause-blameless g c =
    let live : c.self.inside.is_open ≡ true = search rules in
    let in_cut : c.args.shard < length c.self.inside.client.cut = rw (sym c.self.view_is) at c.requires.shard in
    let ends = rw (sym c.self.view_is) at c.requires.ends in
    rw (sym c.self.view_is) (λ honest. blameless_fault g.L.Line.state c.args.round c.args.shard c.args.labels.now _ _ in_cut live c.ask.ensures.shard_lawful c.ask.ensures.ask_lawful
    c.self.invariant.below _ (g.L.Line.faithful c.self.inside.client.line) (g.L.Line.faithful c.ask.new.self.line) c.ask.ensures.faithful
    (g.met.L.Line.serves c.ask.new.self.line) honest c.in-Err.fault ends c.in-Err.ensures.cause)

pub returns-in-Err-clause-honest : goal.returns-in-Err-clause-honest
returns-in-Err-clause-honest g c =
    let live : c.self.inside.is_open ≡ true = search rules in
    let in_cut : c.args.shard < length c.self.inside.client.cut = rw (sym c.self.view_is) at c.requires.shard in
    let ends = rw (sym c.self.view_is) at c.requires.ends in
    rw (sym c.self.view_is) (λ honest.
    let may = blameless_fault g.L.Line.state c.args.round c.args.shard c.args.labels.now _ _ in_cut live c.ask.ensures.shard_lawful c.ask.ensures.ask_lawful c.self.invariant.below _
    (g.L.Line.faithful c.self.inside.client.line) (g.L.Line.faithful c.ask.new.self.line) c.ask.ensures.faithful
    (g.met.L.Line.serves c.ask.new.self.line) honest c.in-Err.fault ends c.in-Err.ensures.cause in
    let (carries, some) = honest in
    let (found, exchanges, went) = some in (
      subst (g.L.Line.faithful c.ask.new.self.line) (sym c.ask.ensures.worker) (c.ask.ensures.faithful _ carries),
      (
        found,
        exchanges,
        failed g.L.Line.state c.args.round c.args.shard c.args.labels.now _ _ in_cut live refl refl c.in-Err.fault c.in-Err.ensures.cause _ _ found exchanges
            may refl c.ask.ensures.cut c.ask.ensures.worker (ap (λ n. c.self.inside.failures + n) c.failure_of.ensures) (ap (λ n. c.self.inside.wants + n) c.want_of.ensures) went,
      ),
    ))
