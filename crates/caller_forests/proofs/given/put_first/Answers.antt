use Rattle.caller_forests.proofs.Givens.{put_one_more}
use Rattle.caller_forests.proofs.given.put_first.Goals as goal

pub loop-i-preserved : goal.loop-i-preserved
loop-i-preserved c =
    put_one_more c.loop-i.given c.args.given.now c.args.links.now c.loop-i.i c.index-links-i.result c.of_link.result c.loop-i-test.true c.requires
    c.loop-i.invariant c.index-links-i.is c.of_link.ensures
