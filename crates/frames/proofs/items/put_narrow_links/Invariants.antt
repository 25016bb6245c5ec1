-- The links so far were appended to the text, which has the capacity for the others.
use Rattle.std.proofs.Common.{◌≡◌, ◌≤◌, ◌+◌, ◌*◌, ◌++◌, take}
use Rattle.std.specs.Prelude.{vec_len, vec_capacity}
use Rattle.std.specs.List.{flat_map}
use Rattle.frames.specs.FrameText.{link_text}
use Rattle.frames.proofs.items.put_narrow_links.Given as goal

abbrev pub invariant-loop-link : goal.invariant-loop-link
invariant-loop-link g l = record {
  put : l.text.items ≡ l.initial.text.items ++ flat_map link_text (take l.link-index l.links);
  len : vec_len l.text ≡ vec_len l.initial.text + 12 * l.link-index;
  room : vec_capacity l.initial.text ≤ vec_capacity l.text;
}
