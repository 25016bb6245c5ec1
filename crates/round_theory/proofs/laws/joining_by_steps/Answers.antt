use Rattle.std.proofs.Common.{Contains, arith}
use Rattle.round_theory.proofs.Steps.{joined_by_steps, relabelled_by_steps, relabelling_unique, relabelling_is_labels}
use Rattle.round_theory.proofs.laws.joining_by_steps.Goals as goal

pub returns : goal.returns
returns c = search (arith, joined_by_steps, relabelled_by_steps, relabelling_unique, relabelling_is_labels)
