use Rattle.std.proofs.Common.{◌≡◌, ℕ, ◌+◌, ◌<◌, ◌≤◌, length, get_or}
use Rattle.links.specs.Labels.{label_of}
use Rattle.link_key.specs.Components.{IsFirstWith}
use Rattle.link_key.proofs.Firsts.{AreFirsts}
use Rattle.link_key.proofs.sequential.components.first_vertices.Given as goal

abbrev pub invariant-loop-v : goal.invariant-loop-v
invariant-loop-v g l = record {
  len : length l.firsts ≡ l.fn.count + 1;
  number : length l.labels.items + 1 ≡ l.v;
  firsts : AreFirsts l.numbers l.fn.count l.v l.firsts;
  labels : (u : ℕ) → 1 ≤ u → u < l.v → IsFirstWith l.numbers (get_or l.numbers u 0) (label_of l.labels.items u);
}
