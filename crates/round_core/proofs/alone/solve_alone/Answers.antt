use Rattle.std.proofs.Common.{◌≡◌, ℕ, ◌-◌, ◌≤◌, sym, subst, arith}
use Rattle.std.specs.Prelude.{◌^◌, max}
use Rattle.std.proofs.lemmas.Result.{err_from_is_err_and}
use Rattle.links.specs.Link.{EndsUpTo}
use Rattle.links.specs.Cut.{joined}
use Rattle.round_theory.specs.Rounds.{IsMergingRounds}
use Rattle.round_core.specs.Solver.{Progress, vertices}
use Rattle.round_core.proofs.Missing.{joined_ends}
use Rattle.round_core.proofs.WholeRounds.{ended, finish_only_memory, is_forest}
use Rattle.round_core.proofs.alone.solve_alone.Goals as goal

pub returns-in_err-forest-clause-fault : goal.returns-in_err-forest-clause-fault
returns-in_err-forest-clause-fault g c =
    let links = joined c.args.cut.now in
    let p : Progress = c.go_round.new.solver in
    let end = ended c.args.n links c.rounds.solver p c.in_ok-go_round.field-0 c.rounds.invariant.same_vertices c.rounds.invariant.so_far c.in_default.is c.in_ok-go_round.ensures.round in
    let ends : EndsUpTo (vertices p) links = subst (λ n. EndsUpTo n links) (sym end.same_vertices) (joined_ends c.args.n c.args.cut.now c.requires.ends) in
    let answered = err_from_is_err_and c.from_residual-in_err-forest.result c.from_residual-in_err-forest.ensures.1 in
    rw (answered.1, answered.2) (finish_only_memory links p c.round-rounds.ensures.progress ends end.so_far end.all c.in_err-forest.field-0.0 c.in_err-forest.ensures.fault)

pub returns : goal.returns
returns g c =
    let links = joined c.args.cut.now in
    let p : Progress = c.go_round.new.solver in
    let end = ended c.args.n links c.rounds.solver p c.in_ok-go_round.field-0 c.rounds.invariant.same_vertices c.rounds.invariant.so_far c.in_default.is c.in_ok-go_round.ensures.round in
    let number : p.rounds ≡ c.round-rounds.result - 1 = omega (arith, c.round-rounds.ensures.round) in
    record {
      forest = is_forest links p end.so_far c.in_ok-forest.forest c.in_ok-forest.ensures.forest;
      rounds = subst (λ r. IsMergingRounds c.args.n links r) number (subst (λ n. IsMergingRounds n links p.rounds) end.same_vertices end.all);
      in_time = subst (λ (r : ℕ). 2 ^ r ≤ max 1 c.args.n) number (subst (λ (n : ℕ). 2 ^ p.rounds ≤ max 1 n) end.same_vertices c.round-rounds.ensures.progress.in_time);
      fault = tt;
    }
