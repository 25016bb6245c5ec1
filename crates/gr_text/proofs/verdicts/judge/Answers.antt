use Rattle.std.proofs.Common.{subst, refl, arith}
use Rattle.gr_text.specs.Statement.{AreSilent}
use Rattle.gr_text.specs.Sort.{Unknown}
use Rattle.gr_text.proofs.Judging.{said_of, no_problem, no_arc, silent_alone}
use Rattle.gr_text.proofs.verdicts.judge.Goals as goal

pub returns-in-Unknown-clause-judged : goal.returns-in-Unknown-clause-judged
returns-in-Unknown-clause-judged c = search (arith, said_of, silent_alone)

pub returns-in-Problem-clause-judged : goal.returns-in-Problem-clause-judged
returns-in-Problem-clause-judged c = search (arith, no_problem)

pub returns-in-Arc-clause-judged : goal.returns-in-Arc-clause-judged
returns-in-Arc-clause-judged c = search (arith, no_arc)

pub returns-in-ArcWhole-clause-judged : goal.returns-in-ArcWhole-clause-judged
returns-in-ArcWhole-clause-judged c = λ lines bytes counts (fields, are, means).
    let (f, g, h, is, (u, wu, ku), (v, wv, kv), (w, ww, kw)) = rw c.in-ArcWhole.is at means in
    c.judge_arc.ensures.judged lines bytes counts (record { tail = u; head = v; weight = w }, (fields, are, (f, g, h, is, wu, wv, ww)), (ku, kv, kw))
