use Rattle.std.proofs.Common.{refl, arith}
use Rattle.gr_text.specs.Sort.{NoProblem}
use Rattle.gr_text.proofs.Judging.{fault_alone, fault_behind}
use Rattle.gr_text.proofs.verdicts.bad_problem.Goals as goal

pub returns-in-Some-clause-judged : goal.returns-in-Some-clause-judged
returns-in-Some-clause-judged c = search (arith, fault_behind)

pub returns-in-None-clause-judged : goal.returns-in-None-clause-judged
returns-in-None-clause-judged c = λ count lines bytes counts of_sort. fault_alone NoProblem _ _ count lines bytes c.in-None.is counts of_sort refl
