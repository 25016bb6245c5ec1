use Rattle.std.proofs.Common.{◌≡◌, ◌+◌, ◌<◌, length, get_or, set, sym, ap, ◌∙◌, subst, inl, inr, arith, get_or-set_same, get_or-set_other}
use Rattle.std.proofs.lemmas.Bool.{cases_eq}
use Rattle.link_key.proofs.Filling.{filled_none, numbers_one_more, filled_one_more}
use Rattle.link_key.proofs.sequential.rounds.number_rest.Goals as goal
use Rattle.link_key.proofs.sequential.rounds.number_rest.Goals.{then-numbers-c-eq0, else-numbers-c-eq0}

pub loop-c-init : goal.loop-c-init
loop-c-init c = record { numbers = c.requires.numbers; filled = filled_none c.args.numbers.now; done = λ k some lt. absurd (omega (arith, some, lt)) }

pub loop-c-preserved : goal.loop-c-preserved
loop-c-preserved c = search (arith, then-numbers-c-eq0, numbers_one_more, filled_one_more, cases_eq, set, get_or-set_same, get_or-set_other, else-numbers-c-eq0)
