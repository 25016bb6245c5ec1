use Rattle.frames.proofs.FrameStreams.{same_frames}
use Rattle.frames.proofs.laws.frames_are_one.Goals as goal

pub returns : goal.returns
returns c = same_frames
