-- The error that a C caller gets from a run over bytes in memory.
use Rattle.std.proofs.Common.{ℕ, List, inl, inr, refl, Err}
use Rattle.gr_text.specs.declared.faults.ReadFault.TheVariants as read
use Rattle.plain_run.specs.Files.{IsFirstFaultOf}
use Rattle.plain_run.specs.declared.fault.RunFault.{RunFault}
use Rattle.plain_run.specs.declared.fault.RunFault.TheVariants as run
use Rattle.caller_forests.specs.Texts.{fault_of, GivesFirstFault}

-- the first error of a text, or out of memory
pub gives_first : (bytes : List ℕ) (why : RunFault) → IsFirstFaultOf {X = ℕ} bytes (Err why) → GivesFirstFault bytes (fault_of why)
gives_first bytes (run.Read (read.Gr f)) first = inl (f.kind, first, refl)
gives_first bytes (run.Read read.Memory) first = inr refl
gives_first bytes (run.Read read.TooLong) first = absurd first
gives_first bytes (run.Read (read.Source line)) first = absurd first
gives_first bytes (run.Cut why) first = absurd first
gives_first bytes (run.Rounds round) first = absurd first
gives_first bytes (run.Missed link) first = absurd first
gives_first bytes run.Memory first = absurd first
gives_first bytes (run.Write written) first = absurd first
