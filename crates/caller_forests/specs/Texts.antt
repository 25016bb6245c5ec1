-- Texts in the caller's memory.
use Rattle.std.specs.Prelude.{◌≡◌, ◌≢◌, ℕ, ◌-◌, ◌≤◌, ℤ, pos, ◌≤ℤ◌, ◌⊎◌, List, [], ◌∷◌, ◌++◌, take, drop, length, codes}
use Rattle.std.specs.Int.Signed.{◌<ℤ◌}
use Rattle.limits.specs.declared.TheConstants.{MAX_BYTES}
use Rattle.gr_text.specs.Fault.{IsFirstFault}
use Rattle.gr_text.specs.declared.faults.GrKind.{GrKind}
use Rattle.gr_text.specs.declared.faults.ReadFault.TheVariants as read
use Rattle.plain_run.specs.Files.{MeansGraph, MeansNothing, IsForestTextOf, IsFaultInMemory}
use Rattle.plain_run.specs.declared.fault.RunFault.{RunFault}
use Rattle.plain_run.specs.declared.fault.RunFault.TheVariants as run
use Rattle.caller_forests.specs.declared.faults.Fault.{Fault}
use Rattle.caller_forests.specs.declared.refusals.CallRefusal.{CallRefusal}
use Rattle.caller_forests.specs.declared.refusals.CallRefusal.TheVariants.{NoMemory, TooLong, Line}
use Rattle.caller_forests.specs.Refusals.{code_of, refusal_text}

-- a buffer after these bytes were written into it, as many as fit
abbrev pub filled : List ℕ → List ℕ → List ℕ
filled bytes room = take (length room) bytes ++ drop (length bytes) room

-- a buffer after this text and a 0 were written into it, truncated so that the 0 fits; an empty buffer stays empty
abbrev pub filled_with_text : List ℕ → List ℕ → List ℕ
filled_with_text text room = filled (take (length room - 1) text ++ 0 ∷ []) room

-- ---- errors as the C caller sees them

-- an error with its line, or with 0
abbrev pub fault_at : CallRefusal → ℕ → Fault
fault_at why line = record { kind = code_of why; line = line }

abbrev pub no_fault : Fault
no_fault = record { kind = pos 0; line = 0 }

-- the error that a C caller gets from a run over bytes in memory: an invalid line, too long a text, or out of memory
abbrev pub fault_of : RunFault → Fault
fault_of (run.Read (read.Gr f)) = fault_at (Line f.kind) f.line
fault_of (run.Read read.TooLong) = fault_at TooLong 0
fault_of other = fault_at NoMemory 0

-- this is the text of an error code, or of a number that isn't one
abbrev pub IsTextOfCode : ℤ → List ℕ → Type 0
IsTextOfCode code text = ((why : CallRefusal) × (code ≡ code_of why) × (text ≡ refusal_text why))
    ⊎ (((why : CallRefusal) → code ≢ code_of why) × (text ≡ codes "not an error code"))

-- the code's text and a 0 were written into the buffer, and the result is the length of the whole text
pub record GivesTextOf (code : ℤ) (before after : List ℕ) (answer : ℕ) : Type 0 where
  pub text : List ℕ
  pub text_is : IsTextOfCode code text
  pub put : after ≡ filled_with_text text before
  pub counted : answer ≡ length text

-- ---- the forest of a text

-- the text of the forest that these bytes describe was written into the buffer, and the result is its length
pub record WritesForestText (bytes before after : List ℕ) (answer : ℤ) : Type 0 where
  pub text : List ℕ
  pub text_is : IsForestTextOf bytes text
  pub put : after ≡ filled text before
  pub counted : answer ≡ pos (length text)

-- the error is one that these bytes have in memory, and the result is its code
abbrev pub RefusesText : List ℕ → ℤ → Fault → Type 0
RefusesText bytes answer fault = (why : RunFault) × IsFaultInMemory bytes why × (fault ≡ fault_of why) × (answer ≡ fault.kind)

-- the error is the first one of these bytes, or out of memory
abbrev pub GivesFirstFault : List ℕ → Fault → Type 0
GivesFirstFault bytes fault = ((kind : GrKind) × IsFirstFault bytes fault.line kind × (fault.kind ≡ code_of (Line kind)))
    ⊎ (fault ≡ fault_at NoMemory 0)

-- the result is an error only if that is out of memory
abbrev pub WantsMemoryAtMost : ℤ → Type 0
WantsMemoryAtMost answer = (pos 0 ≤ℤ answer) ⊎ (answer ≡ code_of NoMemory)

-- either the text of the forest of a text was written into the buffer, or `fault` is why there is none and the buffer
-- is unchanged
pub record AnswersText (text before after : List ℕ) (fault : Fault) (answer : ℤ) : Type 0 where
  pub written : pos 0 ≤ℤ answer → WritesForestText text before after answer
  pub faultless : pos 0 ≤ℤ answer → fault ≡ no_fault
  -- an error is one of reading the text, or out of memory
  pub refused : answer <ℤ pos 0 → RefusesText text answer fault
  pub untouched : answer <ℤ pos 0 → after ≡ before
  -- an invalid text gives its first error, and a valid one gives no error but out of memory
  pub malformed : length text ≤ MAX_BYTES → MeansNothing text → GivesFirstFault text fault
  pub lawful : MeansGraph text → WantsMemoryAtMost answer
