use Rattle.std.proofs.Common.{◌≡◌, ◌<◌, ◌==◌, ℕ, length, get_or, refl, sym, subst, arith}
use Rattle.std.proofs.lemmas.List.Elements.{All-set, All-get_or}
use Rattle.links.specs.Labels.{label_of}
use Rattle.round_theory.specs.Labelling.{IsVertex}
use Rattle.round_core.proofs.Naming.{kept_by_test}
use Rattle.round_core.proofs.roots.keep_own.Goals as goal

pub loop-place-preserved : goal.loop-place-preserved
loop-place-preserved g c =
    let labels = c.args.labels.now in
    let items = c.loop-place.vertices.items in
    let kept = c.loop-place.invariant.kept in
    let x : ℕ = c.index-vertex.result.now in
    let at : x ≡ get_or items c.loop-place.place x = c.index-vertex.ensures in
    let within : c.loop-place.place < length items = omega (arith, c.loop-place-test.true, c.len-place-end.ensures, kept.long, c.args.vertices.now.ok.0) in
    let vertex : IsVertex (length labels) x = subst (IsVertex (length labels)) (sym at) (All-get_or (IsVertex (length labels)) items c.loop-place.place x within c.loop-place.invariant.vertices) in
    record {
      kept = kept_by_test (λ v. label_of labels v == v) c.args.vertices.now.items items c.loop-place.kept _ c.loop-place.place x kept within at refl;
      vertices = All-set (IsVertex (length labels)) items c.loop-place.kept x vertex c.loop-place.invariant.vertices;
    }
