use Rattle.std.proofs.Common.{◌≡◌, vec_len}
use Rattle.std.specs.Prelude.{reverse}
use Rattle.port_rounds.specs.Taking.{with_answers, TakesAll}
use Rattle.port_rounds.proofs.taking.take_list.Given as goal

abbrev pub invariant-loop-answer : goal.invariant-loop-answer
invariant-loop-answer g l = record {
  taken : TakesAll l.book (reverse l.kept.items);
  value : with_answers l.book (reverse l.kept.items) ≡ with_answers l.fn.book l.fn.kept.items;
}

abbrev pub decreases-loop-answer : goal.decreases-loop-answer
decreases-loop-answer g l = vec_len l.kept
