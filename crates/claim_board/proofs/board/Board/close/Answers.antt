use Rattle.std.proofs.Common.{ℕ, List, sym, ap, ◌∙◌, subst}
use Rattle.std.specs.Mem.Slots.{slots_items}
use Rattle.claim_board.specs.State.{BoardState}
use Rattle.claim_board.specs.Rule.{AgreesWithRun}
use Rattle.claim_board.specs.Kept.{owners_of}
use Rattle.claim_board.proofs.Closing.{word_within, came, owners_are, kept_view}
use Rattle.claim_board.proofs.Apart.{closed_apart}
use Rattle.claim_board.proofs.board.Board.close.Goals as goal

pub invariant_of-result : goal.invariant_of-result
invariant_of-result g c =
    let v = c.close_with.ensures.values in
    let row = slots_items c.close_with.result.words in
    let rule = subst (λ (ws : List ℕ). AgreesWithRun c.self.inside.table.shared.key ws v.2.0.views) v.2.2 v.2.1.0 in (
      v.0,
      record {
        words_count = c.close_with.ensures.counts.0 ∙ sym c.word_count-shards.ensures;
        slots_count = c.close_with.ensures.counts.1 ∙ c.self.invariant.slots;
        of_seats = λ shard. word_within c.self.inside.table.shared.key row v.2.0.views rule 64 shard c.self.invariant.range.seats;
      },
    )

pub returns-clause-run : goal.returns-clause-run
returns-clause-run g c =
    let v = c.close_with.ensures.values in
    let row = slots_items c.close_with.result.words in
    let rule = subst (λ (ws : List ℕ). AgreesWithRun c.self.inside.table.shared.key ws v.2.0.views) v.2.2 v.2.1.0 in
    let all = c.requires.seats.all ∙ sym (ap (λ (b : BoardState). b.seats) c.self.view_is) in
    let view = kept_view c.gather.new.kept.me c.into_token-kept.result.me c.in-Some.last c.pop.new.self.items c.args.seats.items
    c.in-Some.ensures.items c.into_token-kept.ensures.alone c.gather.ensures.view in
    came c.self.inside.table.shared.key row v.2.0.views rule c.gather.new.kept.id c.gather.new.kept.me.0 c.args.seats.items v.2.1.1 view all

pub returns-clause-owners : goal.returns-clause-owners
returns-clause-owners g c = owners_are c.args.seats.items (owners_of (slots_items c.close_with.result.words)) (returns-clause-run g c)

pub returns-clause-apart : goal.returns-clause-apart
returns-clause-apart g c = closed_apart c.args.seats.items (owners_of (slots_items c.close_with.result.words)) (returns-clause-run g c)
