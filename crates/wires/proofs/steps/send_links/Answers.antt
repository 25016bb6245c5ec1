use Rattle.std.proofs.Common.{arith}
use Rattle.wires.proofs.Going.{room_kept}
use Rattle.wires.proofs.SendingPieces.{puts_then}
use Rattle.wires.proofs.steps.send_links.Goals as goal

pub loop-rest-preserved : goal.loop-rest-preserved
loop-rest-preserved g c = search (arith, puts_then, room_kept)
