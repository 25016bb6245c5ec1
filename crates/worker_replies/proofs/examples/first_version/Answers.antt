use Rattle.worker_replies.proofs.FirstVersion.{replies, ends}
use Rattle.worker_replies.proofs.examples.first_version.Goals as goal

pub returns : goal.returns
returns c = record { replies = replies; ends = ends }
