-- The bytes of the offers so far are at the beginning.
use Rattle.std.proofs.Common.{◌≡◌, ◌*◌, length, take}
use Rattle.std.specs.List.{flat_map}
use Rattle.frames.specs.FrameText.{offer_text}
use Rattle.frames.proofs.items.put_offers.Given as goal

abbrev pub invariant-loop-i : goal.invariant-loop-i
invariant-loop-i l = record {
  room : length l.bytes ≡ 8 * length l.offers;
  put : take (8 * l.i) l.bytes ≡ flat_map offer_text (take l.i l.offers);
}
