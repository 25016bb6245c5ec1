use Rattle.std.proofs.Common.{◌≡◌, map, ap, ◌∙◌, arith}
use Rattle.std.specs.List.{flat_map}
use Rattle.std.specs.Int.{w32, to_be_bytes}
use Rattle.std.proofs.lemmas.List.Folds.{flat_map-map}
use Rattle.links.proofs.labellings.Labels.spelled.Goals as goal

pub returns-in-Some : goal.returns-in-Some
returns-in-Some g c = search (arith, flat_map-map)
