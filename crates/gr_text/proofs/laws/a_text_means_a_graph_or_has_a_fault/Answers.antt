use Rattle.gr_text.proofs.Deciding.{means_or_fails}
use Rattle.gr_text.proofs.OneFault.{never_both}
use Rattle.gr_text.proofs.laws.a_text_means_a_graph_or_has_a_fault.Goals as goal

pub returns-clause-one : goal.returns-clause-one
returns-clause-one c = means_or_fails

pub returns-clause-not_both : goal.returns-clause-not_both
returns-clause-not_both c = never_both
