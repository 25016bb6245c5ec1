use Rattle.caller_forests.proofs.ArcPlaces.{shown_len}
use Rattle.caller_forests.proofs.arcs.Arcs.len.Goals as goal

pub returns : goal.returns
returns c =
    let s = c.self.inside in
    shown_len 0 s.base s.tails.now s.heads.now s.weights.now c.self.invariant c.args.self.now c.self.view_is
