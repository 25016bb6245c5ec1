use Rattle.worker_replies.proofs.Replying.{one_reply, code_one_where_kept}
use Rattle.worker_replies.proofs.laws.replies_to_an_ask.Goals as goal

pub returns : goal.returns
returns c = record { one = one_reply; code_one = code_one_where_kept }
