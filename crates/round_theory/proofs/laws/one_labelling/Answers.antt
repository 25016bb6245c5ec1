use Rattle.std.proofs.Common.{Contains, arith}
use Rattle.round_theory.proofs.Labels.{list_joins_dec, labelling_exists, labelling_unique, one_label, labelling_is_labels}
use Rattle.round_theory.proofs.Relabelling.{apart_by_no_links}
use Rattle.round_theory.proofs.Leaving.{spans_where_none_leaves}
use Rattle.round_theory.proofs.laws.one_labelling.Goals as goal

pub returns : goal.returns
returns c = search (arith, labelling_exists, list_joins_dec, labelling_unique, one_label, labelling_is_labels, apart_by_no_links, spans_where_none_leaves)
