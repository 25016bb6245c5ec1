use Rattle.std.proofs.Common.{arith}
use Rattle.frames.proofs.AnswerPieces.{pushed_offer}
use Rattle.frames.proofs.items.push_offers.Goals as goal

pub loop-rest-preserved : goal.loop-rest-preserved
loop-rest-preserved g c =
    let (more, is, read, fit) = c.loop-rest.invariant.pushed in
    record {
      pushed = pushed_offer c.push.new.self.items c.loop-rest.offers.items c.args.offers.now.items more c.split_u32-component.result.0 c.split_u32-place.result.0 c.args.bytes.now _ _ _
          c.in_ok-push.ensures.items is read fit (c.split_u32-component.ensures.fits, c.split_u32-place.ensures.fits) c.split_u32-component.ensures.parts c.split_u32-place.ensures.parts;
      whole = omega (arith, c.loop-rest.invariant.whole);
    }
