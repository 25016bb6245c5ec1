use Rattle.std.proofs.Common.{sym, subst}
use Rattle.std.specs.List.Sorted.{IsPermutation}
use Rattle.round_core.specs.Solver.{Progress, IsProgress}
use Rattle.round_core.proofs.Missing.{finished}
use Rattle.round_core.proofs.solver.Solver.finish_par.Goals as goal

pub returns-clause-forest : goal.returns-clause-forest
returns-clause-forest g c =
    let forest = c.of_distinct_par.result in
    finished c.args.self c.args.cut.now forest (subst IsProgress c.self.view_is c.self.invariant.0) c.requires.ends (sym c.in_default.ensures)
    (subst (λ (p : Progress). IsPermutation p.taken forest) c.self.view_is c.of_distinct_par.ensures.same) c.of_distinct_par.ensures.ascending
