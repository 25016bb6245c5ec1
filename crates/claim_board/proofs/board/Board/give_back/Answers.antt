use Rattle.std.proofs.Common.{◌<◌, ◌&&◌, filter, not, ◌==◌, Contains, sym, ap, subst, ◌∙◌, arith}
use Rattle.claim_board.specs.Machine.{held}
use Rattle.claim_board.specs.State.{BoardState, SeatState}
use Rattle.claim_board.proofs.Runs.{held-push}
use Rattle.claim_board.proofs.Lists.{among-filter, taken_out}
use Rattle.claim_board.proofs.Steps.{give_back_allowed_as, seat_after}
use Rattle.claim_board.proofs.board.Board.give_back.Goals as goal

pub compare_exchange-requires : goal.compare_exchange-requires
compare_exchange-requires g c =
    let board = ap (λ (s : SeatState). s.board) c.seat.view_is ∙ c.requires.seat in
    let same = board ∙ sym c.self.view_is in
    let within = subst (λ (b : BoardState). c.args.shard < b.shards) (sym board) c.requires.shard in
    let has = subst (λ (s : SeatState). Contains (held s.events) c.args.shard) (sym c.seat.view_is) c.requires.held in
    rw c.from-mine.ensures (
      ap (λ (b : BoardState). b.table) same,
      subst (λ n. c.args.shard < n) (ap (λ (b : BoardState). b.shards) same ∙ sym c.self.invariant.words) within,
      give_back_allowed_as _ _ _ _ _ _ c.seat.invariant.alone c.seat.invariant.number_of_board within has,
    )

pub invariant_of-seat : goal.invariant_of-seat
invariant_of-seat g c =
    seat_after _ _ _ _ _ _ c.seat.invariant c.compare_exchange.ensures.2
    (λ shard. c.remove.ensures shard ∙ ap (λ b. not (shard == c.args.shard) && b) (c.seat.invariant.list shard) ∙ sym (among-filter shard c.args.shard _))

pub returns-clause-undone : goal.returns-clause-undone
returns-clause-undone g c = search (arith, held-push, filter, not, taken_out)
