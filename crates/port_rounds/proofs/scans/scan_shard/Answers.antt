use Rattle.std.proofs.Common.{◌≡◌, [], refl, sym, arith}
use Rattle.std.specs.Prelude.{None}
use Rattle.links.specs.AnswerValue.{AnswerValue}
use Rattle.round_core.specs.BookValue.{refusal}
use Rattle.round_theory.specs.Ports.{IsHonestAnswer}
use Rattle.port_rounds.proofs.OneAsk.{honest_of, light_of, is_taken_of}
use Rattle.port_rounds.proofs.Scanning.{scanned_one, now_taken}
use Rattle.port_rounds.proofs.scans.scan_shard.Goals as goal

pub scan_par-requires-clause-ends : goal.scan_par-requires-clause-ends
scan_par-requires-clause-ends g c κs within = search arith

pub take_allowed-requires : goal.take_allowed-requires
take_allowed-requires g c =
    let value = c.args.book.now in
    let a : AnswerValue = record { round = c.round.result; shard = c.args.shard; offers = c.in_ok-offers.offers } in
    let h : IsHonestAnswer value.cut value.round c.args.shard value.labels a = honest_of value c.cut.result.now c.round.result c.args.shard c.labels.result.now
    a c.cut.ensures c.round.ensures (sym c.labels.ensures) (record { round_is = refl; shard_is = refl; light = rw (← c.shard.ensures.links) c.in_ok-offers.ensures.light }) in
    record { allowed = c.light_offers_are_taken.ensures value c.args.shard a c.requires.missed h.round_is h.shard_is h.light }

pub returns : goal.returns
returns g c =
    let value = c.args.book.now in
    let a : AnswerValue = record { round = c.round.result; shard = c.args.shard; offers = c.in_ok-offers.offers } in
    let h : IsHonestAnswer value.cut value.round c.args.shard value.labels a = honest_of value c.cut.result.now c.round.result c.args.shard c.labels.result.now
    a c.cut.ensures c.round.ensures (sym c.labels.ensures) (record { round_is = refl; shard_is = refl; light = rw (← c.shard.ensures.links) c.in_ok-offers.ensures.light }) in
    let none : refusal value c.args.shard a ≡ None = c.light_offers_are_taken.ensures value c.args.shard a c.requires.missed h.round_is h.shard_is h.light in
    let took = c.take_allowed.ensures.took in
    record {
      scanned = scanned_one value c.take_allowed.new.self a (is_taken_of value c.args.shard a c.requires.shard none) (light_of value c.args.shard a h) took;
      taken = now_taken value c.take_allowed.new.self a c.args.shard h.shard_is took;
    }
