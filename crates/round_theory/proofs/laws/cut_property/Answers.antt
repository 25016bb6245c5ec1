use Rattle.round_theory.proofs.Leaving.{least_leaving_exists, least_leaving_in_forest}
use Rattle.round_theory.proofs.laws.cut_property.Goals as goal

pub returns : goal.returns
returns c = record { exists = least_leaving_exists; in_forest = least_leaving_in_forest }
