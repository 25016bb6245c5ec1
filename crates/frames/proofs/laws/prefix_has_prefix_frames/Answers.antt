use Rattle.frames.proofs.FrameStreams.{prefix_has_prefix_frames}
use Rattle.frames.proofs.laws.prefix_has_prefix_frames.Goals as goal

pub returns : goal.returns
returns c = prefix_has_prefix_frames
