use Rattle.std.proofs.Common.{◌≡◌}
use Rattle.std.specs.Prelude.{Contains}
use Rattle.std.proofs.lemmas.Result.{IfOk-weaker, IfErr-weaker}
use Rattle.links.specs.Cut.{joined}
use Rattle.round_core.specs.Picks.{ArePicks}
use Rattle.round_core.specs.Solver.{Progress, vertices, IsTurn, IsStepFault, IsRoundOf}
use Rattle.round_core.specs.declared.solver.SolveFault.TheVariants.{Memory}
use Rattle.round_core.proofs.Missing.{joined_ends}
use Rattle.round_core.proofs.WholeCuts.{picks_of_hearings}
use Rattle.round_core.proofs.WholeRounds.{round_of, only_memory}
use Rattle.round_core.proofs.alone.go_round.Goals as goal

pub picks_of_links-requires : goal.picks_of_links-requires
picks_of_links-requires g c = record { ends = rw (c.links.ensures, c.labels.ensures.labels) (joined_ends (vertices c.args.solver.now) c.args.cut.now c.requires.ends) }

pub step-requires : goal.step-requires
step-requires g c =
    let p : Progress = c.args.solver.now in
    let are : ArePicks p.labels (Contains (joined c.args.cut.now)) c.in_ok-picks.picks = rw (← c.labels.ensures.labels, ← c.links.ensures) c.in_ok-picks.ensures in
    record { picks = picks_of_hearings (joined c.args.cut.now) p.labels c.in_ok-picks.picks are }

pub returns : goal.returns
returns g c =
    let p : Progress = c.args.solver.now in
    let links = joined c.args.cut.now in
    let picks = c.in_ok-picks.picks in
    let are : ArePicks p.labels (Contains links) picks = rw (← c.labels.ensures.labels, ← c.links.ensures) c.in_ok-picks.ensures in
    let progress = c.labels.ensures.progress in
    let ends = joined_ends (vertices p) c.args.cut.now c.requires.ends in
    record {
      round = IfOk-weaker c.step.result (IsTurn picks p c.step.new.self) (IsRoundOf links p c.step.new.self)
          (λ turn. round_of links p picks progress ends c.requires.so_far are c.step.new.self turn) c.step.ensures.turn;
      fault = IfErr-weaker c.step.result (IsStepFault p picks) (λ fault. fault ≡ Memory) (only_memory links p picks progress ends c.requires.so_far are) c.step.ensures.fault;
    }
