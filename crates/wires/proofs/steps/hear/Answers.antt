use Rattle.std.proofs.Common.{arith}
use Rattle.std.proofs.KnownBytes.{Appends-nil}
use Rattle.wires.specs.Lines.{LineState}
use Rattle.wires.specs.LineSources.{WasSent, ServesFor}
use Rattle.wires.proofs.LineReads.{came_of, broke_of}
use Rattle.wires.proofs.steps.hear.Goals as goal

pub returns-clause-step : goal.returns-clause-step
returns-clause-step g c =
    let old : LineState = g.L.Line.state c.args.source.now.line in
    let sent = (c.read_frame.ensures.kept.lasts (WasSent old.failures old.sent) (omega arith, λ same. Appends-nil old.sent)).1 in
    record {
      went = came_of c.read_frame.result old _ sent c.read_frame.ensures.text;
      fault = broke_of c.read_frame.result old _ sent c.read_frame.ensures.refused;
      faithful = λ worker. c.read_frame.ensures.kept.lasts (ServesFor worker);
    }
