-- What is read of a source whose bytes are visible and which doesn't fail.
use Rattle.std.proofs.Common.{◌≡◌, ◌≤◌, ℕ, List, ◌++◌, length, inl, inr, Some, Ok, Err, refl, sym, subst, arith}
use Rattle.std.specs.Prelude.{Result}
use Rattle.limits.specs.declared.TheConstants.{MAX_BYTES}
use Rattle.byte_streams.specs.Streams.{SourceState, HadNoFailure}
use Rattle.byte_streams.proofs.Streaming.{gave_known, gave_to_end, gave_unfailing}
use Rattle.gr_text.specs.Graph.{GraphValue}
use Rattle.gr_text.specs.Reader.{IsRead, FailsBy}
use Rattle.gr_text.specs.Sourced.{IsReadOf}
use Rattle.gr_text.specs.declared.faults.ReadFault.{ReadFault}
use Rattle.gr_text.specs.declared.faults.ReadFault.TheVariants as read
use Rattle.gr_text.proofs.Feeding.{StopsBy-more}
use Rattle.gr_text.proofs.Ending.{fails_of_stops}
use Rattle.gr_text.proofs.OneFault.{never_both}
use Rattle.plain_run.specs.Files.{IsFileOf, IsFirstOf, HasFile, MeansGraph, MeansNothing}

-- what is read of a source whose bytes are visible and which doesn't fail is what is read of these bytes
pub reads_the_file : (bytes : List ℕ) (s t : SourceState) (outcome : Result GraphValue ReadFault) → s.left ≡ Some bytes → HadNoFailure s t
    → IsReadOf MAX_BYTES outcome s t → IsRead MAX_BYTES bytes outcome
reads_the_file bytes s t outcome known no_failure (inl whole) =
    subst (λ (xs : List ℕ). IsRead MAX_BYTES xs outcome) (sym (gave_to_end 0 1 bytes whole.bytes s t known (omega arith) whole.gave)) whole.read
reads_the_file bytes s t (Ok graph) known no_failure (inr (inl stopped)) = absurd stopped
reads_the_file bytes s t (Err why) known no_failure (inr (inl stopped)) =
    let (rest, left, split) = gave_known 0 0 bytes stopped.bytes s t known stopped.gave in
    subst (FailsBy why MAX_BYTES) (sym split) (fails_of_stops why MAX_BYTES (stopped.bytes ++ rest) (StopsBy-more why MAX_BYTES stopped.bytes rest stopped.stops))
reads_the_file bytes s t outcome known no_failure (inr (inr (line, is, broke))) =
    let none = gave_unfailing 1 0 broke.bytes s t no_failure broke.gave in
    absurd (omega (arith, none))

-- an error within the limit is the first of the file, or out of memory
first_of_failed : (why : ReadFault) (bytes : List ℕ) → length bytes ≤ MAX_BYTES → FailsBy why MAX_BYTES bytes → IsFirstOf bytes why
first_of_failed a1 a2 a3 a4 = search arith

-- bytes that describe a graph have no error
no_fault_of_lawful : (why : ReadFault) (bytes : List ℕ) (graph : GraphValue) → IsFileOf bytes graph → FailsBy why MAX_BYTES bytes → why ≡ read.Memory
no_fault_of_lawful (read.Gr f) bytes graph file (inl (short, first)) =
    let (arcs, means, links) = file.means in
    absurd (never_both bytes graph.vertices arcs f.line f.kind means first)
no_fault_of_lawful (read.Gr f) bytes graph file (inr (long, ended)) = absurd (omega (arith, file.within, long))
no_fault_of_lawful (read.Source line) bytes graph file fails = absurd fails
no_fault_of_lawful read.TooLong bytes graph file (long, lawful) = absurd (omega (arith, file.within, long))
no_fault_of_lawful read.Memory bytes graph file fails = refl

-- ---- the same for a source whose file is known

pub first_of_file : (why : ReadFault) (s t : SourceState) → IsReadOf MAX_BYTES (Err why) s t → (bytes : List ℕ) → HasFile bytes s t → IsFirstOf bytes why
first_of_file why s t refused bytes file = first_of_failed why bytes file.within (reads_the_file bytes s t (Err why) file.known file.no_failure refused)

pub no_fault_of_file : (why : ReadFault) (s t : SourceState) → IsReadOf MAX_BYTES (Err why) s t → (bytes : List ℕ) → HasFile bytes s t → MeansGraph bytes → why ≡ read.Memory
no_fault_of_file why s t refused bytes file (graph, means) =
    no_fault_of_lawful why bytes graph means (reads_the_file bytes s t (Err why) file.known file.no_failure refused)

pub something_of_file : (graph : GraphValue) (s t : SourceState) → IsReadOf MAX_BYTES (Ok graph) s t → (bytes : List ℕ) → HasFile bytes s t → ¬ (MeansNothing bytes)
something_of_file graph s t is_read bytes file nothing = nothing graph (reads_the_file bytes s t (Ok graph) file.known file.no_failure is_read).1
