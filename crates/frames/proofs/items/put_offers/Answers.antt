use Rattle.std.proofs.Common.{◌≡◌, get_or, rules}
use Rattle.frames.specs.FrameText.{offer_text}
use Rattle.frames.proofs.Listed.{offer_put}
use Rattle.frames.proofs.items.put_offers.Goals as goal

pub loop-i-preserved : goal.loop-i-preserved
loop-i-preserved c =
    let cell : c.copy_from_slice.new.self ≡ offer_text (get_or c.args.offers.now c.loop-i.i (0, 0)) = search rules in
    record {
      room = search rules;
      put = offer_put c.loop-i.bytes c.copy_from_slice.new.self c.args.offers.now c.loop-i.i _ (0, 0) c.loop-i.invariant.room c.loop-i-test.true cell c.loop-i.invariant.put;
    }
