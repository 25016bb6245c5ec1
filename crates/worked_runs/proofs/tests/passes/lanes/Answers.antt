use Rattle.std.proofs.Common.{◌≡◌, length, rules, arith, Global}
use Rattle.std.proofs.lemmas.List.Elements.{All-push}
use Rattle.ports.specs.declared.engine_line.EngineLine.{EngineLine}
use Rattle.wires.specs.declared.wire.Wire.{Wire}
use Rattle.port_rounds.specs.Lanes.{IsIdle}
use Rattle.port_rounds.specs.declared.lane.Lane.{Lane}
use Rattle.worked_runs.proofs.tests.passes.lanes.Goals as goal

-- a lane to a worker in memory
abbrev Worker : Type 0
Worker = Lane (Wire (EngineLine Global) Global) Global

pub loop-worker-preserved : goal.loop-worker-preserved
loop-worker-preserved c =
    let lanes = c.loop-worker.lanes.items in
    let lane = c.in_ok-lane.field-0 in
    let before = c.loop-worker.invariant in
    record {
      count = search (rules, arith);
      cut = rw c.in_ok-push.ensures.items (All-push (λ (w : Worker). w.port.client.cut ≡ c.args.cut.now) lanes lane before.cut c.in_ok-lane.ensures.cut);
      asks = rw c.in_ok-push.ensures.items (All-push (λ (w : Worker). w.port.asks ≡ 0) lanes lane before.asks c.in_ok-lane.ensures.asks);
      idle = rw c.in_ok-push.ensures.items (All-push (λ (w : Worker). IsIdle w) lanes lane before.idle c.in_ok-lane.ensures.idle);
    }
