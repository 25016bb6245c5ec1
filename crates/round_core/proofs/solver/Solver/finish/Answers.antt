use Rattle.std.proofs.Common.{List, sym, ◌∙◌, subst}
use Rattle.std.specs.List.Sorted.{IsPermutation}
use Rattle.links.specs.declared.links.Link.{Link}
use Rattle.round_core.specs.Solver.{Progress, IsProgress}
use Rattle.round_core.proofs.Missing.{finished}
use Rattle.round_core.proofs.solver.Solver.finish.Goals as goal

pub returns-clause-forest : goal.returns-clause-forest
returns-clause-forest g c =
    let forest = c.of_distinct.result in
    let moved : IsPermutation c.self.inside.taken.items forest =
    subst (λ (xs : List Link). IsPermutation xs forest) (c.in_ok-taken.ensures.items ∙ c.as_slice.ensures.value) c.of_distinct.ensures.same in
    finished c.args.self.now c.args.cut.now forest (subst IsProgress c.self.view_is c.self.invariant.0) c.requires.ends (sym c.in_default.ensures)
    (subst (λ (p : Progress). IsPermutation p.taken forest) c.self.view_is moved) c.of_distinct.ensures.ascending
