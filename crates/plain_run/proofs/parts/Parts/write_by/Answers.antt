use Rattle.std.proofs.Common.{◌≤◌, ◌^◌, length, Ok, Err, subst, arith}
use Rattle.plain_run.specs.Parts.{PartsValue, WritesParts}
use Rattle.plain_run.specs.declared.fault.RunFault.TheVariants as fault
use Rattle.plain_run.proofs.JoinedParts.{wrote_forest, wrote_part}
use Rattle.plain_run.proofs.parts.Parts.write_by.Goals as goal

pub returns-in-Ok-write : goal.returns-in-Ok-write
returns-in-Ok-write g c = search (arith, wrote_forest)

pub returns : goal.returns
returns g c = search (arith, wrote_part)
