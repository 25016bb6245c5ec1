use Rattle.std.proofs.Common.{◌∙◌}
use Rattle.round_core.proofs.Naming.{own_roots}
use Rattle.round_core.proofs.roots.Roots.of_labels.Goals as goal

pub returns : goal.returns
returns g c =
    rw (c.keep_own.ensures, c.as_slice.ensures.labels)
    (own_roots c.in_ok-roots.roots.items c.args.labels.now (c.in_ok-roots.ensures.len ∙ c.n.ensures.vertices) c.in_ok-roots.ensures.each)
