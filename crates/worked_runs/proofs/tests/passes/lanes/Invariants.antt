use Rattle.std.proofs.Common.{◌≡◌, vec_len}
use Rattle.std.specs.Prelude.{All}
use Rattle.port_rounds.specs.Lanes.{IsIdle}
use Rattle.worked_runs.proofs.tests.passes.lanes.Given as goal

abbrev pub invariant-loop-worker : goal.invariant-loop-worker
invariant-loop-worker l = record {
  count : vec_len l.lanes ≡ l.worker;
  cut : All (λ lane. lane.port.client.cut ≡ l.cut) l.lanes.items;
  asks : All (λ lane. lane.port.asks ≡ 0) l.lanes.items;
  idle : All IsIdle l.lanes.items;
}
