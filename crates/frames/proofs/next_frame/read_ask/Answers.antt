use Rattle.std.proofs.Common.{length, arith}
use Rattle.std.proofs.lemmas.Result.{IfOk-weaker, IfErr-weaker, err_from_is_err_and}
use Rattle.frames.specs.NextFrame.{IsAskUnder, numbers_of_ask}
use Rattle.frames.proofs.NextFrames.{all_fit, ask_unlawful, ask_unpassed, ask_stopped, ask_read, no_ask_read}
use Rattle.frames.proofs.next_frame.read_ask.Goals.{then-shard-ge-MAX_SHARDS-via-then-shard-ge-MAX_SHARDS, then-shard-ge-MAX_SHARDS-via-else-shard-ge-MAX_SHARDS+then-count-last}
use Rattle.frames.proofs.next_frame.read_ask.Goals as goal

pub returns-in_err-pass_over-clause-refused : goal.returns-in_err-pass_over-clause-refused
returns-in_err-pass_over-clause-refused g c = search (arith, err_from_is_err_and, ask_unpassed)

pub returns-then-shard-ge-MAX_SHARDS-clause-refused : goal.returns-then-shard-ge-MAX_SHARDS-clause-refused
returns-then-shard-ge-MAX_SHARDS-clause-refused g c = search (
  arith,
  ask_unlawful,
  then-shard-ge-MAX_SHARDS-via-then-shard-ge-MAX_SHARDS,
  then-shard-ge-MAX_SHARDS-via-else-shard-ge-MAX_SHARDS+then-count-last,
)

pub returns-in_err-heard-clause-refused : goal.returns-in_err-heard-clause-refused
returns-in_err-heard-clause-refused g c = search (arith, err_from_is_err_and, ask_stopped)

pub returns-clause-came : goal.returns-clause-came
returns-clause-came g c = search (arith, ask_read)

pub returns-clause-coarser : goal.returns-clause-coarser
returns-clause-coarser g c = search arith

pub returns-clause-refused : goal.returns-clause-refused
returns-clause-refused g c =
    let (wide_r, wide_s, wide_c) = c.in_ok-round.ensures.fit in
    IfErr-weaker _ _ _
    (λ fault is.
    no_ask_read c.in_ok-round.round c.in_ok-round.shard c.in_ok-round.count (length c.args.last.now) _ _ _ c.in_ok-round.ensures.came c.if-shard-ge-MAX_SHARDS.false c.if-count-last.false wide_r
    (numbers_of_ask c.args.last.now c.in_ok-heard.heard.numbers) c.in_ok-heard.ensures.counted c.in_ok-heard.ensures.came wide_s wide_c
    fault (c.in_ok-heard.ensures.fit (all_fit c.args.last.now (λ i. omega (arith, c.type_inv.last i)))) is)
    c.ask_of.ensures.refused
