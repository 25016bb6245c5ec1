use Rattle.std.proofs.Common.{arith}
use Rattle.links.proofs.Apart.{apart_from_places, labels_from_apart}
use Rattle.links.proofs.labellings.Labels.apart.Goals as goal

pub of_known-requires : goal.of_known-requires
of_known-requires g c = labels_from_apart c.args.n _ c.requires (apart_from_places _ _ (omega arith) (λ k lt. c.loop-v.invariant.counts k (omega arith)))
