use Rattle.std.proofs.Common.{arith}
use Rattle.std.proofs.lemmas.Result.{IfOk-weaker, IfErr-weaker}
use Rattle.frames.specs.NextFrame.{next_value}
use Rattle.frames.proofs.NextFrames.{frame_behind, refused_behind}
use Rattle.frames.proofs.next_frame.read_next.Goals as goal

pub returns-clause-lawful : goal.returns-clause-lawful
returns-clause-lawful g c = search (arith, frame_behind)

pub returns-clause-text : goal.returns-clause-text
returns-clause-text g c = search (arith, frame_behind)

pub returns-clause-refused : goal.returns-clause-refused
returns-clause-refused g c = search (arith, refused_behind)
