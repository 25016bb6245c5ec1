use Rattle.std.proofs.Common.{length, sym, subst, arith}
use Rattle.round_core.specs.Picks.{ArePicksOfHearings}
use Rattle.round_core.specs.Solver.{Progress, so_far}
use Rattle.round_core.proofs.Naming.{roots_within}
use Rattle.round_core.proofs.Merging.{still_vertices, goes_on_with}
use Rattle.round_core.proofs.Giving.{all_at_roots}
use Rattle.round_core.proofs.solver.Solver.step_in_place.Goals as goal

pub clear-requires : goal.clear-requires
clear-requires g c = search (arith, roots_within)

pub keep-requires : goal.keep-requires
keep-requires g c = search (arith, still_vertices)

pub invariant_of-self-2 : goal.invariant_of-self-2
invariant_of-self-2 g c =
    let p : Progress = so_far c.self.inside.labels c.self.inside.taken.items c.self.inside.rounds in
    let q : Progress = so_far c.merge_by.new.labels c.merge_by.new.taken.items c.merge_by.new.rounds in
    let picks : ArePicksOfHearings p.labels c.args.picks.now = subst (λ (r : Progress). ArePicksOfHearings r.labels c.args.picks.now) (sym c.self.view_is) c.requires.picks in
    goes_on_with p q c.args.picks.now _ c.in-Merged.field-0 c.in-Merged.is c.in_ok-turn.ensures.turn c.self.inside.roots
    c.as_slice.result.now c.self.invariant.1 c.as_slice.ensures.labels c.keep.new.self c.self.invariant.0 picks
    (rw c.merge_by.ensures.roots at c.keep.ensures)

pub returns-clause-none : goal.returns-clause-none
returns-clause-none g c =
    let p : Progress = so_far c.self.inside.labels c.self.inside.taken.items c.self.inside.rounds in
    let picks : ArePicksOfHearings p.labels c.args.picks.now = subst (λ (r : Progress). ArePicksOfHearings r.labels c.args.picks.now) (sym c.self.view_is) c.requires.picks in
    c.clear.ensures.none (rw c.merge_by.ensures.roots (all_at_roots p c.self.inside.roots c.args.picks.now c.self.invariant.0 c.self.invariant.1 picks))
