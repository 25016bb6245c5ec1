-- The exit status of an error.
use Rattle.std.specs.Prelude.{ℕ}
use Rattle.links.specs.declared.cuts.CutFault.TheVariants as cut
use Rattle.gr_text.specs.declared.faults.ReadFault.TheVariants as read
use Rattle.plain_run.specs.declared.fault.PartFault.{PartFault}
use Rattle.plain_run.specs.declared.fault.PartFault.TheVariants as part
use Rattle.plain_run.specs.declared.fault.RunFault.{RunFault}
use Rattle.plain_run.specs.declared.fault.RunFault.TheVariants as fault

-- 1 for the file, or a split that isn't allowed; 3 for a stream; 4 for out of memory; 5 for the workers' answers
abbrev pub status_for : RunFault → ℕ
status_for (fault.Read (read.Gr f)) = 1
status_for (fault.Read read.TooLong) = 1
status_for (fault.Read (read.Source number)) = 3
status_for (fault.Write written) = 3
status_for (fault.Read read.Memory) = 4
status_for (fault.Cut cut.Memory) = 4
status_for (fault.Cut refusal) = 1
status_for (fault.Rounds round) = 5
status_for (fault.Missed link) = 5
status_for fault.Memory = 4

-- the exit status for a file that can't be part of the graph: that of its error, or 1 for another number of vertices
abbrev pub status_for_part : PartFault → ℕ
status_for_part (part.Read why) = status_for (fault.Read why)
status_for_part (part.OtherVertices vertices wanted) = 1
