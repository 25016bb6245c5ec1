use Rattle.std.proofs.Common.{length, sym, ap, ◌∙◌, map, arith}
use Rattle.std.specs.Int.{w32, from_be_bytes}
use Rattle.std.proofs.lemmas.Bool.{eqb-true}
use Rattle.frames.specs.FrameText.{u32_text}
use Rattle.frames.proofs.Texts.{u32_length, items_length}
use Rattle.frames.proofs.Listed.{numbers_are, numbers_found}
use Rattle.frames.proofs.items.spells.Goals as goal

pub returns-then-bytes-ne0 : goal.returns-then-bytes-ne0
returns-then-bytes-ne0 c = (
  λ no. cc,
  λ spelled. absurd (omega (arith, ap length spelled, items_length u32_text 4 u32_length c.args.numbers.now, c.if-bytes-ne0.true)),
)

pub returns-then-cells-numbers : goal.returns-then-cells-numbers
returns-then-cells-numbers c = search (arith, numbers_are, numbers_found)

pub returns-else-cells-numbers : goal.returns-else-cells-numbers
returns-else-cells-numbers c = (
  λ no. absurd (c.if-cells-numbers.false (eqb-true _ _ no)),
  λ spelled. absurd (omega (arith, ap length spelled, items_length u32_text 4 u32_length c.args.numbers.now, c.as_chunks.ensures.front_len, c.if-cells-numbers.false, c.if-bytes-ne0.false)),
)
