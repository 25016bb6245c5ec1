use Rattle.std.proofs.Common.{◌≡◌, ℕ, ◌<◌, ◌≤◌, length, get_or, vec_len, vec_capacity}
use Rattle.links.specs.declared.links.Link.{Link}
use Rattle.link_key.specs.declared.sequential.rounds.Open.{Open}
use Rattle.link_key.specs.OpenLinks.{with_end_labels}
use Rattle.link_key.proofs.sequential.rounds.open_vertices.Given as goal

abbrev pub invariant-loop-link : goal.invariant-loop-link
invariant-loop-link g l = record {
  rank : l.rank ≡ l.link-index;
  len : length l.candidates.items ≡ l.link-index;
  count : vec_len l.candidates ≡ l.link-index;
  room : length l.links ≤ vec_capacity l.candidates;
  each : (k : ℕ) (o : Open) (d : Link) → k < l.link-index → get_or l.candidates.items k o ≡ with_end_labels (λ v. v) k (get_or l.links k d);
}
