use Rattle.std.proofs.Common.{None, ◌∙◌, subst, arith}
use Rattle.std.proofs.lemmas.Result.{IfOk-weaker, IfErr-weaker, err_from_is_err_and}
use Rattle.byte_streams.specs.Streams.{only_left}
use Rattle.frames.specs.FrameValue.{value_of}
use Rattle.frames.specs.Spellings.{HeardLinks}
use Rattle.frames.specs.declared.spelling.Spelling.{Spelling}
use Rattle.frames.proofs.Pieces.{passed_so_many, unpassed_so_many, stopped_so_many}
use Rattle.frames.proofs.ShardPieces.{shard_unlawful, shard_unpassed, shard_stopped, shard_late, shard_came, no_shard_came, no_links_came}
use Rattle.frames.proofs.shard_reader.read_shard.Goals.{then-number-ge-MAX_SHARDS-via-then-number-ge-MAX_SHARDS, then-number-ge-MAX_SHARDS-via-else-number-ge-MAX_SHARDS+then-count-most}
use Rattle.frames.proofs.shard_reader.read_shard.Goals as goal

pub returns-in_err-number-clause-late : goal.returns-in_err-number-clause-late
returns-in_err-number-clause-late g c = search (arith, err_from_is_err_and)

pub returns-in_err-pass_over-clause-late : goal.returns-in_err-pass_over-clause-late
returns-in_err-pass_over-clause-late g c = search (arith, err_from_is_err_and)

pub returns-in_err-pass_over-clause-refused : goal.returns-in_err-pass_over-clause-refused
returns-in_err-pass_over-clause-refused g c = search (arith, err_from_is_err_and, shard_unpassed, unpassed_so_many)

pub returns-then-number-ge-MAX_SHARDS-clause-refused : goal.returns-then-number-ge-MAX_SHARDS-clause-refused
returns-then-number-ge-MAX_SHARDS-clause-refused g c = search (
  arith,
  shard_unlawful,
  passed_so_many,
  then-number-ge-MAX_SHARDS-via-then-number-ge-MAX_SHARDS,
  then-number-ge-MAX_SHARDS-via-else-number-ge-MAX_SHARDS+then-count-most,
)

pub returns-in_err-read_list-clause-refused : goal.returns-in_err-read_list-clause-refused
returns-in_err-read_list-clause-refused g c = search (arith, err_from_is_err_and, shard_stopped, stopped_so_many)

pub returns-in_err-read_list-clause-late : goal.returns-in_err-read_list-clause-late
returns-in_err-read_list-clause-late g c = search (arith, err_from_is_err_and, shard_late)

pub returns-in-Some-clause-came : goal.returns-in-Some-clause-came
returns-in-Some-clause-came g c =
    let list = c.in_ok-read_list.ensures.came in
    let heard = subst (λ (s : Spelling). HeardLinks s list.bytes c.read_list.new.list.links) list.heard.0 list.heard.1 in
    IfOk-weaker _ _ _
    (λ f is.
    shard_came c.args.spelling c.in_ok-number.number c.in_ok-number.count c.args.most _ _ _ c.in_ok-number.ensures.came c.if-number-ge-MAX_SHARDS.false c.if-count-most.false
    _ list.bytes (list.counted ∙ c.bytes_of-2.ensures) list.gave heard c.requires.few c.in-Some.links (value_of f) c.in-Some.is is)
    c.shard_of.ensures.frame

pub returns-in-Some-clause-refused : goal.returns-in-Some-clause-refused
returns-in-Some-clause-refused g c =
    let list = c.in_ok-read_list.ensures.came in
    let heard = subst (λ (s : Spelling). HeardLinks s list.bytes c.read_list.new.list.links) list.heard.0 list.heard.1 in
    IfErr-weaker _ _ _
    (λ fault is.
    no_shard_came c.args.spelling c.in_ok-number.number c.in_ok-number.count c.args.most _ _ _ c.in_ok-number.ensures.came c.if-number-ge-MAX_SHARDS.false c.if-count-most.false
    _ list.bytes (list.counted ∙ c.bytes_of-2.ensures) list.gave heard c.in_ok-number.ensures.fit.0 c.in_ok-number.ensures.fit.1 c.in-Some.links fault c.in-Some.is is)
    c.shard_of.ensures.refused

pub returns-in-None-clause-refused : goal.returns-in-None-clause-refused
returns-in-None-clause-refused g c =
    let list = c.in_ok-read_list.ensures.came in
    let heard = subst (λ (s : Spelling). HeardLinks s list.bytes c.read_list.new.list.links) list.heard.0 list.heard.1 in
    no_links_came c.args.spelling c.in_ok-number.number c.in_ok-number.count c.args.most _ _ _ c.in_ok-number.ensures.came c.if-number-ge-MAX_SHARDS.false c.if-count-most.false
    _ list.bytes (list.counted ∙ c.bytes_of-2.ensures) list.gave heard c.in_ok-number.ensures.fit.0 c.in_ok-number.ensures.fit.1 c.in-None.is
