use Rattle.std.proofs.Common.{◌≡◌, get_or, refl, sym, ◌∙◌, subst, inl, inr, arith}
use Rattle.std.proofs.lemmas.Bool.{cases_lt}
use Rattle.std.proofs.lemmas.List.{get_or_default}
use Rattle.shard_scans.specs.declared.live.LiveLink.{LiveLink}
use Rattle.shard_scans.specs.Numbers.{marks_of, AreBothMarked}
use Rattle.shard_scans.proofs.numbers.mark_each.Goals as goal

pub mark-requires-clause-in_words : goal.mark-requires-clause-in_words
mark-requires-clause-in_words g c = search arith

pub mark-requires-in-loop-link-clause-in_words : goal.mark-requires-in-loop-link-clause-in_words
mark-requires-in-loop-link-clause-in_words g c = search arith

pub loop-link-preserved : goal.loop-link-preserved
loop-link-preserved g c = search (arith, cases_lt, get_or_default)
