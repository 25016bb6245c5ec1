use Rattle.gr_text.proofs.Keeping.{keeps_all}
use Rattle.gr_text.proofs.sourced.read_graph_upto.Goals as goal

pub returns : goal.returns
returns g c = record { outcome = keeps_all _ _ _ _ _ c.read_kept_upto.ensures.outcome }
