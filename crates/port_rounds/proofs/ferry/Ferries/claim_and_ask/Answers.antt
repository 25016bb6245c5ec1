use Rattle.std.proofs.Common.{◌≡◌, ◌∙◌, [], ◌∷◌, refl, ap, sym, ◌++◌, append-nil, arith}
use Rattle.std.proofs.lemmas.Grind.{common_steps}
use Rattle.std.proofs.lemmas.List.Elements.{Contains-append_right}
use Rattle.claim_board.specs.Machine.{held}
use Rattle.port_rounds.proofs.OneAsk.{not_taken, where_held}
use Rattle.port_rounds.proofs.AsksThen.{none_asked}
use Rattle.port_rounds.proofs.ferry.Ferries.claim_and_ask.Goals as goal

-- ---- nothing was asked

pub returns-then-not-is_missing-clause-seat : goal.returns-then-not-is_missing-clause-seat
returns-then-not-is_missing-clause-seat g c = (refl, refl)

pub returns-then-not-is_missing-clause-asks : goal.returns-then-not-is_missing-clause-asks
returns-then-not-is_missing-clause-asks g c = none_asked g.P.Port c.args.self.now.book.now c.args.shard c.args.port.now

pub returns-then-not-is_missing-clause-held : goal.returns-then-not-is_missing-clause-held
returns-then-not-is_missing-clause-held g c = sym (append-nil (held c.args.seat.now.events))

pub returns-in_default-clause-seat : goal.returns-in_default-clause-seat
returns-in_default-clause-seat g c = c.claim.ensures.same

pub returns-in_default-clause-asks : goal.returns-in_default-clause-asks
returns-in_default-clause-asks g c = none_asked g.P.Port c.args.self.now.book.now c.args.shard c.args.port.now

pub returns-in_default-clause-held : goal.returns-in_default-clause-held
returns-in_default-clause-held g c = search (arith, where_held, append-nil)

-- ---- no answer was kept

pub returns-in_default-ask_port-clause-seat : goal.returns-in_default-ask_port-clause-seat
returns-in_default-ask_port-clause-seat g c = (c.give_back.ensures.same.0 ∙ c.claim.ensures.same.0, c.give_back.ensures.same.1 ∙ c.claim.ensures.same.1)

pub returns-in_default-ask_port-clause-held : goal.returns-in_default-ask_port-clause-held
returns-in_default-ask_port-clause-held g c = search (arith, append-nil)

-- ---- an answer was kept

pub returns-clause-seat : goal.returns-clause-seat
returns-clause-seat g c = c.claim.ensures.same

pub returns-clause-held : goal.returns-clause-held
returns-clause-held g c = c.in-Won.ensures.list ∙ ap (λ s. held c.args.seat.now.events ++ s ∷ []) (sym c.in-Some.ensures.of_shard)

-- ---- what the calls require

pub claim-requires-clause-seat : goal.claim-requires-clause-seat
claim-requires-clause-seat g c = c.requires.seat

pub claim-requires-clause-shard : goal.claim-requires-clause-shard
claim-requires-clause-shard g c = omega (arith, c.args.self.now.board_is.shards, c.requires.shard)

pub ask_port-requires-clause-missed : goal.ask_port-requires-clause-missed
ask_port-requires-clause-missed g c = not_taken c.is_missing.result _ c.is_missing.ensures c.if-not-is_missing.false

pub give_back-requires-clause-seat : goal.give_back-requires-clause-seat
give_back-requires-clause-seat g c = c.claim.ensures.same.0 ∙ c.requires.seat

pub give_back-requires-clause-shard : goal.give_back-requires-clause-shard
give_back-requires-clause-shard g c = omega (arith, c.args.self.now.board_is.shards, c.requires.shard)

pub give_back-requires-clause-held : goal.give_back-requires-clause-held
give_back-requires-clause-held g c =
    rw c.in-Won.ensures.list (Contains-append_right (held c.args.seat.now.events) (c.args.shard ∷ []) c.args.shard (grind (arith, common_steps)))
