use Rattle.std.proofs.Common.{refl, arith}
use Rattle.frames.specs.FrameValue.{AnswerFrame}
use Rattle.worker_engine.specs.declared.session.Written.TheVariants.{AnAnswer}
use Rattle.worker_engine.proofs.Steps.{wrote_one, cut_one, wrote_fault, cut_fault}
use Rattle.worker_engine.proofs.session.write_reply.Goals as goal

pub returns-in-Fault-clause-wrote : goal.returns-in-Fault-clause-wrote
returns-in-Fault-clause-wrote g c = search (arith, wrote_fault)

pub returns-in-Fault-clause-cut : goal.returns-in-Fault-clause-cut
returns-in-Fault-clause-cut g c = search (arith, cut_fault)

pub returns-in-Ok-clause-wrote : goal.returns-in-Ok-clause-wrote
returns-in-Ok-clause-wrote g c = rw (c.in-Some.is, c.in-Answer.is) (wrote_one (AnswerFrame c.in-Answer.answer) AnAnswer _ _ (refl, refl, refl) c.in-Ok.ensures.whole)

pub returns-in-Answer-clause-cut : goal.returns-in-Answer-clause-cut
returns-in-Answer-clause-cut g c = rw (c.in-Some.is, c.in-Answer.is) (cut_one (AnswerFrame c.in-Answer.answer) _ _ c.in-Err.ensures.cut)
