use Rattle.frames.proofs.Refusing.{refusal_of_the_stream}
use Rattle.ports.proofs.session.first_frame.Goals as goal

pub returns-in-Err-clause-refused : goal.returns-in-Err-clause-refused
returns-in-Err-clause-refused g c of_stream = refusal_of_the_stream c.in-Err.fault _ _ of_stream c.in-Err.ensures.refused
