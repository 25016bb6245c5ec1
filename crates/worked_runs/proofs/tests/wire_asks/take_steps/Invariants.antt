use Rattle.std.proofs.Common.{◌≡◌}
use Rattle.worked_runs.proofs.tests.wire_asks.take_steps.Given as goal

abbrev pub invariant-loop-step : goal.invariant-loop-step
invariant-loop-step g l = (g.P.Port.state l.port).cut ≡ l.cut
