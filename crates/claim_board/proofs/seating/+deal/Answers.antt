use Rattle.std.proofs.Common.{rules, ◌≡◌, ◌+◌, [], ◌∷◌, length, arith, sym, ap, subst, ◌∙◌, length-append}
use Rattle.atomic_table.specs.Table.{Me}
use Rattle.claim_board.specs.declared.rule.Size.{Size}
use Rattle.claim_board.specs.declared.rule.View.{View}
use Rattle.claim_board.specs.State.{BoardState, InOrder}
use Rattle.claim_board.specs.Kept.{board_state, IsInRange}
use Rattle.claim_board.proofs.Places.{split_allowed}
use Rattle.claim_board.proofs.Rows.{InOrder-push, no_events-push, lists_are, dealt}
use Rattle.claim_board.proofs.seating.+deal.Goals as goal

pub split_seat-token-requires : goal.split_seat-token-requires
split_seat-token-requires g t c = (c.requires.table.0, c.requires.table.1, split_allowed _ _ _ _ _ (lists_are c.args.rest.me _ _ c.requires.view c.requires.some))

pub deal-requires : goal.deal-requires
deal-requires g t c κs within =
    let s = c.split_seat-token.ensures in
    let some = c.requires.some in
    let not_one = c.if-count-eq1.false in
    let old = c.args.seats.now.items in
    let new = c.push_reserved-else-count-eq1.new.self.items in
    let seat = c.fresh-else-count-eq1.result in
    let added = c.push_reserved-else-count-eq1.ensures.items in
    let size : c.split_seat-token.new.seat.me.0.size ≡ c.args.rest.me.0.size = ap (λ (m : Me (Unit {0}) View). m.0.size) s.2 in
    let token_size : c.split_seat-token.result.me.0.size ≡ c.args.rest.me.0.size = ap (λ (m : Me (Unit {0}) View). m.0.size) s.4 in
    let longer : length new ≡ length old + 1 = ap length added ∙ length-append old (seat ∷ []) in
    let total : length old + c.args.count ≡ c.split_seat-token.new.seat.me.0.size.seats = c.requires.count ∙ sym (ap (λ (z : Size). z.seats) size) in
    let here : c.len-number.result ≡ length old = search rules in
    let kept : BoardState = board_state c.args.rest.table_id c.args.rest.me.0.size in
    let board : kept ≡ board_state c.split_seat-token.new.seat.table_id c.split_seat-token.new.seat.me.0.size = sym (λ i. board_state (s.0 i) (size i)) in
    let of_board : board_state c.split_seat-token.result.table_id c.split_seat-token.result.me.0.size ≡ kept = λ i. board_state (s.3 i) (token_size i) in
    let fresh : seat ≡ record { board = kept; number = c.len-number.result; events = [] } = c.fresh-else-count-eq1.ensures
    ∙ (λ i. record { board = of_board i; number = c.len-number.result; events = [] }) in
    let in_order : InOrder kept new = InOrder-push kept old new seat c.len-number.result added c.requires.in_order fresh here in (
      omega arith,
      (
        search rules,
        (
          (s.0 ∙ c.requires.table.0, c.requires.table.1),
          (
            omega arith,
            (
              dealt c.args.rest.me _ _ c.requires.view some c.split_seat-token.new.seat.me (length new) s.2 longer,
              (
                subst IsInRange (sym size) c.requires.range,
                (
                  omega arith,
                  (search rules, (subst (λ (b : BoardState). InOrder b new) board in_order, no_events-push kept old new seat c.len-number.result added c.requires.fresh fresh)),
                ),
              ),
            ),
          ),
        ),
      ),
    )

pub returns-then-count-eq1-clause-in_order : goal.returns-then-count-eq1-clause-in_order
returns-then-count-eq1-clause-in_order g t c =
    let here : c.len-number.result ≡ length c.args.seats.now.items = search rules in
    InOrder-push _ c.args.seats.now.items c.push_reserved.new.self.items c.fresh.result c.len-number.result c.push_reserved.ensures.items c.requires.in_order c.fresh.ensures here
