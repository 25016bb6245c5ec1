use Rattle.std.proofs.Common.{◌≡◌, ◌+◌, ◌-◌, ◌≤◌, ◌^◌, ◌↔◌, max, true, false, length, refl, sym, ◌∙◌, arith}
use Rattle.std.proofs.lemmas.Result.{err_from_is_err_and}
use Rattle.round_core.specs.Picks.{AreNoPicks}
use Rattle.round_core.specs.Solver.{Progress, vertices, so_far}
use Rattle.round_core.proofs.Naming.{roots_few, roots_within}
use Rattle.round_core.proofs.Merging.{rounds_few, in_bound, is_merged, so_many_more}
use Rattle.round_core.proofs.Giving.{none_in_progress}
use Rattle.round_core.proofs.solver.merge_by.Goals as goal

pub have_no_picks-requires : goal.have_no_picks-requires
have_no_picks-requires g c = roots_within c.args.labels.now c.args.roots.now (length c.args.picks.now) c.requires.picks.1.each_vertex c.requires.roots

pub returns-then-have_no_picks-clause-turn : goal.returns-then-have_no_picks-clause-turn
returns-then-have_no_picks-clause-turn g c =
    let p : Progress = so_far c.args.labels.now c.args.taken.now.items c.args.rounds.now in
    ((none_in_progress p c.args.roots.now c.args.picks.now c.have_no_picks.result c.requires.progress c.requires.roots c.requires.picks c.have_no_picks.ensures).0 c.if-have_no_picks.true, refl)

pub overflow_add-round : goal.overflow_add-round
overflow_add-round g c = let few = rounds_few _ _ c.requires.progress.few_vertices c.requires.progress.in_time in omega (arith, few)

pub is_past_bound-requires : goal.is_past_bound-requires
is_past_bound-requires g c = let few = rounds_few _ _ c.requires.progress.few_vertices c.requires.progress.in_time in omega (arith, few)

pub returns-in_err-merge-clause-fault : goal.returns-in_err-merge-clause-fault
returns-in_err-merge-clause-fault g c =
    let p : Progress = so_far c.args.labels.now c.args.taken.now.items c.args.rounds.now in
    let in_time : 2 ^ (p.rounds + 1) ≤ max 1 (vertices p) =
    in_bound (vertices p) c.n.result (p.rounds + 1) c.is_past_bound.result c.is_past_bound.ensures c.if-is_past_bound.false c.n.ensures.vertices in
    let some : ¬ (AreNoPicks c.args.picks.now) = λ none.
    let wrong : false ≡ true =
    sym c.if-have_no_picks.false ∙ (none_in_progress p c.args.roots.now c.args.picks.now c.have_no_picks.result c.requires.progress c.requires.roots c.requires.picks c.have_no_picks.ensures).1 none in
    absurd (cc) in
    let answered = err_from_is_err_and c.from_residual.result c.from_residual.ensures.1 in
    rw (answered.1, answered.2) (in_time, some)

pub overflow_cast-result : goal.overflow_cast-result
overflow_cast-result g c = search (arith, roots_few, so_many_more)

pub returns-clause-turn : goal.returns-clause-turn
returns-clause-turn g c =
    let p : Progress = so_far c.args.labels.now c.args.taken.now.items c.args.rounds.now in
    let took = c.in_ok-merge.ensures.once in
    let in_time : 2 ^ (p.rounds + 1) ≤ max 1 (vertices p) =
    in_bound (vertices p) c.n.result (p.rounds + 1) c.is_past_bound.result c.is_past_bound.ensures c.if-is_past_bound.false c.n.ensures.vertices in
    let count : c.len.result - c.len-before.result ≡ length took.added =
    omega (arith, so_many_more p.taken took.added c.merge.new.taken.items took.behind, c.len-before.ensures, c.len.ensures, c.args.taken.now.ok.0, c.merge.new.taken.ok.0) in
    let decides : (c.have_no_picks.result ≡ true) ↔ AreNoPicks c.args.picks.now =
    none_in_progress p c.args.roots.now c.args.picks.now c.have_no_picks.result c.requires.progress c.requires.roots c.requires.picks c.have_no_picks.ensures in
    is_merged p c.args.picks.now c.merge.new.labels took.added c.merge.new.taken.items (c.len.result - c.len-before.result) c.have_no_picks.result c.requires.progress c.requires.picks
    decides c.if-have_no_picks.false took.once c.in_ok-merge.ensures.relabelled in_time count took.behind
