use Rattle.std.proofs.Common.{ap, ◌∙◌}
use Rattle.round_core.proofs.OwnPicks.{all_answers_counted}
use Rattle.round_core.proofs.tally.are_counted.Goals as goal

pub returns : goal.returns
returns g c =
    all_answers_counted c.args.cut.now c.args.labels.now c.args.numbers.now c.args.answers.now c.all.result (λ x. x.now) c.all.ensures.0
    (c.all.ensures.1 ∙ ap (λ it. it.slice.now) c.with_min_len.ensures.base ∙ c.par_iter.ensures) c.all.ensures.2
