use Rattle.std.proofs.Common.{rules, ◌≡◌, ◌+◌, [], ◌∷◌, length, arith, ap, ◌∙◌, length-append}
use Rattle.atomic_table.specs.Table.{Me}
use Rattle.claim_board.specs.declared.rule.View.{View}
use Rattle.claim_board.specs.Rule.{several}
use Rattle.claim_board.proofs.Rows.{InOrderAt-front, InOrderAt-last, gathered, join_required}
use Rattle.claim_board.proofs.seating.+gather.Goals as goal

pub join_seat-requires : goal.join_seat-requires
join_seat-requires g t c =
    let last = InOrderAt-last c.args.words.now.table_id c.pop.new.self.items c.args.seats.now.items c.in-Some.seat c.in-Some.ensures.items c.requires.in_order in
    let longer : length c.args.seats.now.items ≡ length c.pop.new.self.items + 1 = ap length c.in-Some.ensures.items ∙ length-append c.pop.new.self.items (c.in-Some.seat ∷ []) in
    let number = last.1 in (
      c.requires.table.0,
      c.into_token.ensures.table_is ∙ last.0,
      ap (λ (m : Me (Unit {0}) View). m.1) c.into_token.ensures.alone,
      c.requires.table.1,
      join_required _ _ _ _ _ c.requires.view c.into_token.ensures.alone _ _ _ (omega arith),
    )

pub gather-requires : goal.gather-requires
gather-requires g t c κs within =
    let last = InOrderAt-last c.args.words.now.table_id c.pop.new.self.items c.args.seats.now.items c.in-Some.seat c.in-Some.ensures.items c.requires.in_order in
    let j = c.join_seat.ensures in
    let now = gathered c.args.kept.now.me c.into_token.result.me c.in-Some.seat.number c.in-Some.seat.events _ c.requires.view c.into_token.ensures.alone c.join_seat.new.seat.me j.2 in (
      search rules,
      (
        search rules,
        (
          (j.0 ∙ c.requires.table.0, c.requires.table.1),
          (
            now.0 ∙ ap (λ n. (several c.join_seat.new.seat.me.0.size n c.join_seat.new.seat.me.0.lists, [])) last.1,
            InOrderAt-front c.args.words.now.table_id c.pop.new.self.items c.args.seats.now.items c.in-Some.seat c.in-Some.ensures.items c.requires.in_order,
          ),
        ),
      ),
    )
