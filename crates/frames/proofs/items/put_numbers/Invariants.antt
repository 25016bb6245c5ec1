-- The numbers so far were appended to the text, which has the capacity for the others.
use Rattle.std.proofs.Common.{◌≡◌, ◌≤◌, ◌+◌, ◌*◌, ◌++◌, take}
use Rattle.std.specs.Prelude.{vec_len, vec_capacity}
use Rattle.std.specs.List.{flat_map}
use Rattle.frames.specs.FrameText.{u32_text}
use Rattle.frames.proofs.items.put_numbers.Given as goal

abbrev pub invariant-loop-number : goal.invariant-loop-number
invariant-loop-number g l = record {
  put : l.text.items ≡ l.initial.text.items ++ flat_map u32_text (take l.number-index l.numbers);
  len : vec_len l.text ≡ vec_len l.initial.text + 4 * l.number-index;
  room : vec_capacity l.initial.text ≤ vec_capacity l.text;
}
