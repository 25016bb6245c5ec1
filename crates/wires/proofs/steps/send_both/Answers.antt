use Rattle.std.proofs.Common.{arith}
use Rattle.wires.proofs.Going.{sent_later, down_later}
use Rattle.wires.proofs.steps.send_both.Goals as goal

pub returns : goal.returns
returns g c = record {
  step = record {
    went = sent_later c.send-2.result _ _ _ _ _ c.in_ok-send.ensures.step.went c.send-2.ensures.step.went;
    fault = down_later c.send-2.result _ _ _ _ _ c.in_ok-send.ensures.step.went c.send-2.ensures.down c.send-2.ensures.step.fault;
    faithful = search arith;
  };
}
