use Rattle.std.proofs.Common.{inl, inr, refl, arith}
use Rattle.gr_text.specs.Sort.{NoArc}
use Rattle.gr_text.proofs.Judging.{fault_alone, fault_behind}
use Rattle.gr_text.proofs.verdicts.bad_arc.Goals as goal

pub returns-in-None-clause-judged : goal.returns-in-None-clause-judged
returns-in-None-clause-judged c = λ lines bytes counts of_sort. fault_alone NoArc _ _ _ lines bytes c.in-None.is counts of_sort refl

pub returns-then-count-size-clause-judged : goal.returns-then-count-size-clause-judged
returns-then-count-size-clause-judged c = λ lines bytes counts of_sort.
    fault_behind NoArc _ _ _ _ lines bytes c.in-Some.is counts of_sort (λ arcs lawful counted. inl (omega (arith, lawful.no_more), refl))

pub returns-else-count-size-clause-judged : goal.returns-else-count-size-clause-judged
returns-else-count-size-clause-judged c = λ lines bytes counts of_sort.
    fault_behind NoArc _ _ _ _ lines bytes c.in-Some.is counts of_sort (λ arcs lawful counted. inr (omega arith, refl))
