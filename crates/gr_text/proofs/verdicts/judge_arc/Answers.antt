use Rattle.std.proofs.Common.{subst, sym, arith, inl, inr, refl, Option}
use Rattle.gr_text.specs.Statement.{ArcLine}
use Rattle.gr_text.specs.Sort.{Makes}
use Rattle.gr_text.specs.LinesSoFar.{Judges}
use Rattle.gr_text.specs.declared.sizes.ProblemSize.{ProblemSize}
use Rattle.gr_text.specs.declared.verdicts.Verdict.TheVariants as verdict
use Rattle.gr_text.proofs.Judging.{fault_alone, fault_behind}
use Rattle.gr_text.proofs.verdicts.judge_arc.Goals as goal

pub returns-in_default-clause-judged : goal.returns-in_default-clause-judged
returns-in_default-clause-judged c = λ lines bytes counts (arc, says, kept).
    fault_alone (Makes (ArcLine arc)) _ _ _ lines bytes c.in_default.is counts says refl

pub returns-then-count-size-clause-judged : goal.returns-then-count-size-clause-judged
returns-then-count-size-clause-judged c = λ lines bytes counts (arc, says, kept).
    fault_behind (Makes (ArcLine arc)) _ _ _ _ lines bytes c.in-Some.is counts says (λ arcs lawful counted. inl (omega (arith, lawful.no_more), refl))

pub returns-in-Err-clause-judged : goal.returns-in-Err-clause-judged
returns-in-Err-clause-judged c = λ lines bytes counts (arc, says, kept).
    fault_behind (Makes (ArcLine arc)) _ _ _ _ lines bytes c.in-Some.is counts says (λ arcs lawful counted. elim (c.in-Err.ensures.judged arc kept) [
      | inl (out, is) ↦ inr (inl (omega arith, out, is))
      | inr (ends, out, is) ↦ inr (inr (omega arith, ends, out, is))
    ])

pub returns-in-Ok-clause-judged : goal.returns-in-Ok-clause-judged
returns-in-Ok-clause-judged c = search arith

pub returns-in-Ok-clause-fits : goal.returns-in-Ok-clause-fits
returns-in-Ok-clause-fits c = (c.in-Some.size, c.in-Some.is, c.in-Ok.ensures.fits, omega arith)
