use Rattle.std.proofs.Common.{ℕ, ◌<◌, ◌≤◌, get_or}
use Rattle.std.specs.Prelude.{◌↔◌}
use Rattle.links.specs.declared.links.Link.{Link}
use Rattle.shard_scans.proofs.kept_shard.greatest_end.Given as goal

abbrev pub invariant-loop-link : goal.invariant-loop-link
invariant-loop-link l = (n : ℕ) → ((k : ℕ) (d : Link) → k < l.link-index → (get_or l.links k d).high ≤ n) ↔ (l.greatest ≤ n)
