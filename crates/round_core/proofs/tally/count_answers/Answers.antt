use Rattle.std.proofs.Common.{◌≡◌, List, get_or, take, sym, subst, take_all, arith}
use Rattle.links.specs.declared.links.Link.{Link}
use Rattle.links.specs.Cut.{links_at}
use Rattle.links.specs.AnswerValue.{AnswerValue}
use Rattle.round_core.specs.BookValue.{named_links, all_named}
use Rattle.round_core.specs.OwnPicks.{AreLeastNumbers, Counts}
use Rattle.round_core.proofs.Books.{one_more_answer}
use Rattle.round_core.proofs.Counts.{none_are_least}
use Rattle.round_core.proofs.tally.count_answers.Goals as goal

pub loop-answer-init : goal.loop-answer-init
loop-answer-init g c = none_are_least c.args.labels.now c.args.numbers.now c.requires.into.each_vertex c.requires.into.none

pub loop-answer-preserved : goal.loop-answer-preserved
loop-answer-preserved g c =
    let i = c.loop-answer.answer-index in
    let cut = c.args.cut.now in
    let answers = c.args.answers.now in
    let a : AnswerValue = record { round = c.answer.inside.round; shard = c.answer.inside.shard; offers = c.answer.inside.offers } in
    let is : a ≡ get_or answers i a = subst (λ (x : AnswerValue). x ≡ get_or answers i x) (sym c.answer.view_is) c.answer-item.is in
    let counts : Counts c.args.labels.now (named_links (links_at cut a.shard) a.offers) c.loop-answer.numbers c.count_all.new.numbers =
    rw (← c.shard.ensures.links, ← c.pairs.ensures.pairs) c.count_all.ensures in
    subst (λ (xs : List Link). AreLeastNumbers c.args.labels.now xs c.count_all.new.numbers)
    (sym (one_more_answer cut answers i a c.loop-answer-test.true is)) (counts (all_named cut (take i answers)) c.loop-answer.invariant)

pub returns : goal.returns
returns g c = search (arith, take_all)
