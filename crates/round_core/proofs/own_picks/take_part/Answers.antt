use Rattle.std.proofs.Common.{◌≡◌, get_or, sym, ◌∙◌, subst}
use Rattle.links.specs.Cut.{links_at}
use Rattle.links.specs.AnswerValue.{AnswerValue}
use Rattle.round_core.specs.OwnPicks.{IsOfferedBy, IsOfferedIn, AreTakenFrom}
use Rattle.round_core.proofs.OwnPicks.{taken_then, taken_of_answer}
use Rattle.round_core.proofs.own_picks.take_part.Goals as goal

pub loop-answer-preserved : goal.loop-answer-preserved
loop-answer-preserved g c =
    let i = c.loop-answer.answer-index in
    let cut = c.args.cut.now in
    let answers = c.args.answers.now in
    let a : AnswerValue = record { round = c.answer.inside.round; shard = c.answer.inside.shard; offers = c.answer.inside.offers } in
    let is : a ≡ get_or answers i a = subst (λ (x : AnswerValue). x ≡ get_or answers i x) (sym c.answer.view_is) c.answer-item.is in
    let here : AreTakenFrom (IsOfferedBy (links_at cut a.shard) a.offers) c.args.start c.loop-answer.part c.take_each.new.part =
    rw (← c.shard.ensures.links, ← c.pairs.ensures.pairs) c.take_each.ensures in
    record {
      room = c.take_each.auto.part ∙ c.loop-answer.invariant.room;
      taken =
          taken_then (IsOfferedIn cut answers) c.args.start c.args.part.now c.loop-answer.part c.take_each.new.part c.loop-answer.invariant.room c.loop-answer.invariant.taken
          (taken_of_answer cut answers i a c.args.start c.loop-answer.part c.take_each.new.part c.loop-answer-test.true is here);
    }
