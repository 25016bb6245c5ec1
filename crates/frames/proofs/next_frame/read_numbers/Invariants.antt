-- The bytes that came encode the numbers so far, and no read failed or found the end.
use Rattle.std.proofs.Common.{◌≡◌, ◌-◌, ◌≤◌, length, take, All}
use Rattle.std.specs.Prelude.{◌↔◌, IsTrue}
use Rattle.std.specs.List.{flat_map}
use Rattle.byte_streams.specs.Streams.{Gave}
use Rattle.frames.specs.FrameText.{u32_text}
use Rattle.frames.specs.Lawful.{IsU32}
use Rattle.frames.specs.NextFrame.{AreCoarserUpTo, AreOthers, numbers_of_ask}
use Rattle.frames.proofs.next_frame.read_numbers.Given as goal

abbrev pub invariant-loop-came : goal.invariant-loop-came
invariant-loop-came g l = record {
  within : l.came ≤ length l.last;
  room : length l.buffer ≡ 65536;
  counted : length (numbers_of_ask (take l.came l.last) l.numbers) ≡ l.came;
  others : AreOthers l.last l.came l.numbers;
  coarser : IsTrue l.are_coarser ↔ AreCoarserUpTo l.last (numbers_of_ask (take l.came l.last) l.numbers) l.came;
  gave : Gave 0 0 (flat_map u32_text (numbers_of_ask (take l.came l.last) l.numbers)) (g.S.Source.state l.initial.source) (g.S.Source.state l.source);
  fit : All IsU32 l.last → All IsU32 (numbers_of_ask (take l.came l.last) l.numbers);
  lasts : (fact : g.S.Source.Fact) → g.S.Source.lasts l.initial.source fact → g.S.Source.lasts l.source fact;
  can : g.S.Source.can_read l.source;
}

abbrev pub decreases-loop-came : goal.decreases-loop-came
decreases-loop-came g l = length l.last - l.came
