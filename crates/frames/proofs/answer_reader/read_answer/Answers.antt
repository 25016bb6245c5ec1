use Rattle.std.proofs.Common.{◌≡◌, None, refl, sym, subst, rules, arith}
use Rattle.std.proofs.lemmas.Result.{err_from_is_err_and}
use Rattle.byte_streams.specs.Streams.{only_left}
use Rattle.links.specs.Offers.{AreOffers}
use Rattle.frames.proofs.AnswerPieces.{answer_unlawful, answer_unpassed, answer_stopped, answer_late, answer_came, no_answer_came}
use Rattle.frames.proofs.answer_reader.read_answer.Goals as goal

pub returns-in_err-round-clause-late : goal.returns-in_err-round-clause-late
returns-in_err-round-clause-late g c = search (arith, err_from_is_err_and)

pub returns-in_err-pass_over-clause-late : goal.returns-in_err-pass_over-clause-late
returns-in_err-pass_over-clause-late g c = search (arith, err_from_is_err_and)

pub returns-in_err-pass_over-clause-refused : goal.returns-in_err-pass_over-clause-refused
returns-in_err-pass_over-clause-refused g c = search (arith, err_from_is_err_and, answer_unpassed)

pub returns-then-count-most-clause-refused : goal.returns-then-count-most-clause-refused
returns-then-count-most-clause-refused g c = search (arith, answer_unlawful)

pub returns-in_err-read_list-clause-refused : goal.returns-in_err-read_list-clause-refused
returns-in_err-read_list-clause-refused g c = search (arith, err_from_is_err_and, answer_stopped)

pub returns-in_err-read_list-clause-late : goal.returns-in_err-read_list-clause-late
returns-in_err-read_list-clause-late g c =
    let p = err_from_is_err_and c.from_residual-in_err-read_list.result c.from_residual-in_err-read_list.ensures.1 in
    rw (p.1, p.2) (answer_late c.in_ok-round.round c.in_ok-round.shard c.in_ok-round.count c.args.most _ _ (only_left None) c.in_ok-round.ensures.came c.if-count-most.false _)

pub returns-in-Some-clause-came : goal.returns-in-Some-clause-came
returns-in-Some-clause-came g c =
    let (wide_r, wide_s, wide_c) = c.in_ok-round.ensures.fit in
    let list = c.in_ok-read_list.ensures.came in
    let same = c.in-Some.ensures.same_pairs in
    answer_came c.in_ok-round.round c.in_ok-round.shard c.in_ok-round.count c.args.most _ _ _ c.in_ok-round.ensures.came c.if-count-most.false wide_r wide_s
    c.read_list.new.list.items list.bytes list.counted list.gave list.heard
    c.requires.few _ (search rules) (subst AreOffers (sym same) (c.in-Some.ensures.exactly_ascending.0 refl))

pub returns-in-None-clause-refused : goal.returns-in-None-clause-refused
returns-in-None-clause-refused g c = search (arith, no_answer_came)
