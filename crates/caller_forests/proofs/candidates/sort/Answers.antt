use Rattle.std.proofs.Common.{rules}
use Rattle.std.proofs.lemmas.List.Sorted.{answers_always}
use Rattle.links.specs.WideKey.{wide_key}
use Rattle.caller_forests.specs.declared.candidates.Candidate.{Candidate}
use Rattle.caller_forests.proofs.candidates.sort.Goals as goal

pub returns-clause-ordered : goal.returns-clause-ordered
returns-clause-ordered c = c.sort_unstable_by_key.ensures.sorted (λ (x : Candidate). wide_key x.link) (answers_always _ _ _ (λ f a r h called. search rules))
