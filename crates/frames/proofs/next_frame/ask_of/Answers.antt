use Rattle.std.proofs.Common.{length, Option, Vec, ℕ, refl, sym, ap, subst, ◌∙◌, arith}
use Rattle.std.specs.Prelude.{IsTrue}
use Rattle.frames.specs.FrameValue.{AskFrame}
use Rattle.frames.specs.NextFrame.{AreCoarserUpTo, numbers_of_ask}
use Rattle.frames.proofs.CoarserLabels.{others_dont}
use Rattle.frames.proofs.next_frame.ask_of.Goals as goal

pub returns-in-Some-of_list-clause-ask : goal.returns-in-Some-of_list-clause-ask
returns-in-Some-of_list-clause-ask g c = search (arith, others_dont)
