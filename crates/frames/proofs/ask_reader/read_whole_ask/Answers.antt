use Rattle.std.proofs.Common.{◌≡◌, ℕ, List, None, length, ap, sym, refl, subst, arith, rules}
use Rattle.std.specs.List.{flat_map}
use Rattle.std.proofs.lemmas.Result.{err_from_is_err_and}
use Rattle.byte_streams.specs.Streams.{only_left, Gave}
use Rattle.links.specs.Labels.{AreLabels}
use Rattle.frames.specs.FrameText.{u32_text}
use Rattle.frames.specs.declared.fault.FrameFault.TheVariants.{BadField}
use Rattle.frames.proofs.NextFrames.{bytes_of, ask_unlawful, ask_unpassed, ask_stopped, ask_late, ask_came, no_ask_read}
use Rattle.frames.proofs.ask_reader.read_whole_ask.Goals.{then-shard-ge-MAX_SHARDS-via-then-shard-ge-MAX_SHARDS, then-shard-ge-MAX_SHARDS-via-else-shard-ge-MAX_SHARDS+then-count-most}
use Rattle.frames.proofs.ask_reader.read_whole_ask.Goals as goal

pub returns-in_err-round-clause-late : goal.returns-in_err-round-clause-late
returns-in_err-round-clause-late g c = search (arith, err_from_is_err_and)

pub returns-in_err-pass_over-clause-late : goal.returns-in_err-pass_over-clause-late
returns-in_err-pass_over-clause-late g c = search (arith, err_from_is_err_and)

pub returns-in_err-pass_over-clause-refused : goal.returns-in_err-pass_over-clause-refused
returns-in_err-pass_over-clause-refused g c = search (arith, err_from_is_err_and, ask_unpassed)

pub returns-then-shard-ge-MAX_SHARDS-clause-refused : goal.returns-then-shard-ge-MAX_SHARDS-clause-refused
returns-then-shard-ge-MAX_SHARDS-clause-refused g c = search (
  arith,
  ask_unlawful,
  then-shard-ge-MAX_SHARDS-via-then-shard-ge-MAX_SHARDS,
  then-shard-ge-MAX_SHARDS-via-else-shard-ge-MAX_SHARDS+then-count-most,
)

pub returns-in_err-read_list-clause-refused : goal.returns-in_err-read_list-clause-refused
returns-in_err-read_list-clause-refused g c = search (arith, err_from_is_err_and, ask_stopped)

pub returns-in_err-read_list-clause-late : goal.returns-in_err-read_list-clause-late
returns-in_err-read_list-clause-late g c =
    let p = err_from_is_err_and c.from_residual-in_err-read_list.result c.from_residual-in_err-read_list.ensures.1 in
    rw (p.1, p.2) (ask_late c.in_ok-round.round c.in_ok-round.shard c.in_ok-round.count c.args.most _ _
    (only_left None) c.in_ok-round.ensures.came c.if-shard-ge-MAX_SHARDS.false c.if-count-most.false _)

pub returns-in-Some-clause-came : goal.returns-in-Some-clause-came
returns-in-Some-clause-came g c =
    let list = c.in_ok-read_list.ensures.came in
    let labels = c.in-Some.labels in
    let spelled : flat_map u32_text labels ≡ list.bytes = rw (c.in-Some.ensures.same_labels) (search rules) in
    let count : length labels ≡ c.args.most = omega (arith, ap length spelled, list.counted, bytes_of labels) in
    ask_came c.in_ok-round.round c.in_ok-round.shard c.in_ok-round.count c.args.most _ _ _ c.in_ok-round.ensures.came c.if-shard-ge-MAX_SHARDS.false c.if-count-most.false c.in_ok-round.ensures.fit.0
    labels count (subst (λ (t : List ℕ). Gave 0 0 t (g.S.Source.state c.read_three.new.source) (g.S.Source.state c.read_list.new.source))
    (sym spelled) list.gave) (rw c.in-Some.ensures.same_labels (c.in-Some.ensures.exactly_labels.0 refl))

pub returns-in-None-clause-refused : goal.returns-in-None-clause-refused
returns-in-None-clause-refused g c = search (arith, bytes_of, no_ask_read)
