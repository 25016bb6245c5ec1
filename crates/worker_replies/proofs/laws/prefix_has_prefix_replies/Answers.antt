use Rattle.worker_replies.proofs.Replying.{prefix_has_prefix_replies}
use Rattle.worker_replies.proofs.laws.prefix_has_prefix_replies.Goals as goal

pub returns : goal.returns
returns c = prefix_has_prefix_replies
