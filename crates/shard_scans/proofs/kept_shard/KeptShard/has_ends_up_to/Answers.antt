use Rattle.std.proofs.Common.{◌≡◌, sym, ap, subst}
use Rattle.std.proofs.lemmas.Bool.{leb-true, le-leb}
use Rattle.links.specs.Link.{EndsUpTo}
use Rattle.shard_scans.specs.Live.{KeptShardState}
use Rattle.shard_scans.proofs.kept_shard.KeptShard.has_ends_up_to.Goals as goal

pub returns-clause-ends : goal.returns-clause-ends
returns-clause-ends g c =
    let ends = c.self.invariant.1 c.args.n in
    let same : c.self.inside.links.items ≡ c.args.self.now.links = ap (λ (h : KeptShardState). h.links) c.self.view_is in
    (λ test. subst (EndsUpTo c.args.n) same (ends.1 (leb-true _ _ test)), λ up. le-leb _ _ (ends.0 (subst (EndsUpTo c.args.n) (sym same) up)))
