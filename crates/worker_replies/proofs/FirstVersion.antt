-- What a worker of version 1 may write.
use Rattle.std.proofs.Common.{ℕ, zero, suc, ◌≤◌, List, [], ◌∷◌, refl, inl, arith, lit≤, lit<}
use Rattle.links.specs.Labels.{IsLabelled, AreLabels}
use Rattle.frames.specs.FrameValue.{FrameValue, ShardFrame, FaultFrame}
use Rattle.frames.specs.Lawful.{IsVersion}
use Rattle.frames.specs.FrameStream.{AreLawful}
use Rattle.frames.proofs.FrameStreams.{frames_of_texts}
use Rattle.worker_replies.specs.Examples.{asked, wide_link, FirstVersionReplies, FirstVersionEnds}

known : IsVersion 1
known = record { from_first = lit≤ tt; to_this = lit≤ tt }

labelled : (v : ℕ) → 1 ≤ v → v ≤ 1 → IsLabelled (1 ∷ []) v
labelled zero from_one to_one = absurd (omega (arith, from_one))
labelled (suc zero) from_one to_one = record { from_one = lit≤ tt; at_most_itself = lit≤ tt; own = refl }
labelled (suc (suc v)) from_one to_one = absurd (omega (arith, to_one))

lawful : AreLawful asked
lawful = (record { round = lit< tt; shard = lit< tt; labels = record { few_vertices = lit≤ tt; labelled = labelled } }, tt)

pub replies : FirstVersionReplies
replies = record {
  known = known;
  frames = asked;
  replies = FaultFrame 1 0 2 ∷ [];
  came = frames_of_texts asked lawful;
  answered = (FaultFrame 1 0 2 ∷ [], [], refl, (FaultFrame 1 0 2, refl, inl refl), refl);
  written = refl;
}

-- this version has no frame of a shard with such a link, so it hears none
pub ends : FirstVersionEnds
ends = record {
  known = known;
  frames = ShardFrame 1 (wide_link ∷ []) ∷ asked;
  replies = [];
  came = frames_of_texts (ShardFrame 1 (wide_link ∷ []) ∷ asked) (record { number = lit< tt; count = lit≤ tt }, lawful);
  answered = refl;
  written = refl;
}
