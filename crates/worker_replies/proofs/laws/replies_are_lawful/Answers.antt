use Rattle.worker_replies.proofs.Replying.{served_lawful}
use Rattle.worker_replies.proofs.laws.replies_are_lawful.Goals as goal

pub returns : goal.returns
returns c = λ version worker stream out serves. (serves.replies, served_lawful version worker stream out serves, serves.written)
