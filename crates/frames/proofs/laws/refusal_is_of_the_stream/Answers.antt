use Rattle.frames.proofs.Refusing.{refusal_of_the_stream}
use Rattle.frames.proofs.laws.refusal_is_of_the_stream.Goals as goal

pub returns : goal.returns
returns c = refusal_of_the_stream
