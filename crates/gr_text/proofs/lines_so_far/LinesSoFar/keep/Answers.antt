use Rattle.std.proofs.Common.{refl, subst}
use Rattle.gr_text.specs.Kept.{KeepsOn}
use Rattle.gr_text.specs.LinesSoFar.{LinesSoFarValue}
use Rattle.gr_text.proofs.Keeping.{kept_again}
use Rattle.gr_text.proofs.lines_so_far.LinesSoFar.keep.Goals as goal

pub returns-in-Ok : goal.returns-in-Ok
returns-in-Ok g c =
    let keep = g.K.Keep in
    let was = c.self.inside in
    let done = c.in-Ok.ensures in
    let now : LinesSoFarValue = record { size = was.size; count = was.count; links = c.keep.new.links.items } in
    subst (λ (v : LinesSoFarValue). KeepsOn keep.drops (keep.knows c.keep.new.self) (keep.dropped c.args.keeper.now) (keep.dropped c.keep.new.self) v now) c.self.view_is
    (record { size = refl; count = refl; kept = λ all are. kept_again all was.links.items now.links done.cover done.counted done.whole are; known = done.known })
