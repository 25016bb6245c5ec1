use Rattle.std.proofs.Common.{◌==◌, length}
use Rattle.std.specs.Prelude.{All}
use Rattle.std.proofs.lemmas.List.Filters.{FiltersInPlace}
use Rattle.links.specs.Labels.{label_of}
use Rattle.round_theory.specs.Labelling.{IsVertex}
use Rattle.round_core.proofs.roots.keep_own.Given as goal

abbrev pub invariant-loop-place : goal.invariant-loop-place
invariant-loop-place g l = record {
  kept : FiltersInPlace (λ c. label_of l.labels c == c) l.initial.vertices.items l.vertices.items l.kept l.place;
  vertices : All (IsVertex (length l.labels)) l.vertices.items;
}
