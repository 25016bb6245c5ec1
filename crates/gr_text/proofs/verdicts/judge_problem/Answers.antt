use Rattle.std.proofs.Common.{inl, inr, refl, arith}
use Rattle.gr_text.specs.Statement.{Problem}
use Rattle.gr_text.specs.Sort.{Makes}
use Rattle.gr_text.proofs.Judging.{fault_alone, fault_behind}
use Rattle.gr_text.proofs.verdicts.judge_problem.Goals as goal
use Rattle.gr_text.proofs.verdicts.judge_problem.Goals.{then-n-from-via-then-n-from, then-n-from-via-else-n-from+then-m-from}

pub returns-in-Some-clause-judged : goal.returns-in-Some-clause-judged
returns-in-Some-clause-judged c = λ count lines bytes counts (k, l, says, kept_n, kept_m).
    fault_behind (Makes (Problem k l)) _ _ _ count lines bytes c.in-Some.is counts says (λ arcs lawful counted. refl)

pub returns-then-n-from-clause-judged : goal.returns-then-n-from-clause-judged
returns-then-n-from-clause-judged c = λ count lines bytes counts (k, l, says, kept_n, kept_m).
    fault_alone (Makes (Problem k l)) _ _ count lines bytes c.in_default.is counts says (
      elim c.then-n-from.branch [
        | then-n-from-via-then-n-from w ↦ inl (omega arith)
        | then-n-from-via-else-n-from+then-m-from w ↦ inr (omega arith)
      ],
      refl,
    )
