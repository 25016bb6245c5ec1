-- What a run did, given what its steps did, and what follows for bytes in memory.
use Rattle.std.proofs.Common.{◌≡◌, ◌≤◌, ◌^◌, ℕ, List, [], length, inl, inr, Some, Ok, Err, refl, sym, subst, arith}
use Rattle.limits.specs.declared.TheConstants.{MAX_BYTES}
use Rattle.byte_streams.specs.Streams.{SourceState, SinkState, Gave, Took, HadNoFailure}
use Rattle.byte_streams.proofs.Streaming.{gave_to_end, took_nothing, took_known}
use Rattle.links.specs.Least.{sum_of_weights, IsLightest}
use Rattle.links.specs.declared.links.Link.{Link}
use Rattle.gr_text.specs.ForestText.{forest_text}
use Rattle.gr_text.specs.Graph.{GraphValue}
use Rattle.gr_text.specs.Sourced.{IsReadOf}
use Rattle.gr_text.specs.Written.{PrefixWentOut}
use Rattle.gr_text.specs.declared.faults.ReadFault.{ReadFault}
use Rattle.gr_text.proofs.ForestSize.{few_are_exact}
use Rattle.plain_run.proofs.KnownFiles.{reads_the_file}
use Rattle.plain_run.specs.Files.{IsFileOf, HasForest, IsForestTextOf, IsFaultInMemory}
use Rattle.plain_run.specs.Outcomes.{streams, IsDone, IsUnread, IsUnsolved, IsBrokenOff, IsLeast}
use Rattle.plain_run.specs.PlainRun.{RanPlain, IsPlainReport, plain_report}
use Rattle.plain_run.specs.declared.fault.RunFault.{RunFault}
use Rattle.plain_run.specs.declared.report.Report.{Report}
use Rattle.plain_run.specs.declared.fault.RunFault.TheVariants as fault

-- a graph is read only from a whole file
pub whole_file : (graph : GraphValue) (s t : SourceState) → IsReadOf MAX_BYTES (Ok graph) s t → (bytes : List ℕ) × Gave 0 1 bytes s t × IsFileOf bytes graph
whole_file a1 a2 a3 a4 = search arith

pub unread : (why : ReadFault) (s t : SourceState) (a : SinkState) → IsReadOf MAX_BYTES (Err why) s t → IsUnread why (streams s a) (streams t a)
unread why s t a refused = record { refused = refused; nothing = took_nothing a }

pub unsolved : (why : GraphValue → Type 0) (graph : GraphValue) (s t : SourceState) (a : SinkState) → IsReadOf MAX_BYTES (Ok graph) s t → why graph → IsUnsolved why (streams s a) (streams t a)
unsolved why graph s t a read cause = search (arith, whole_file, took_nothing)

pub done : (found says : GraphValue → List Link → Type 0) (graph : GraphValue) (forest : List Link) (n : ℕ) (s t : SourceState) (a b : SinkState)
    → IsReadOf MAX_BYTES (Ok graph) s t → found graph forest → n ≡ graph.vertices → Took 0 (forest_text n forest) a b → says graph forest
    → IsDone found says (streams s a) (streams t b)
done found says graph forest n s t a b read found_is same took said = search (arith, whole_file)

-- such a report has the least total
pub plainly : (graph : GraphValue) (forest : List Link) (report : Report) → IsLightest graph.links (sum_of_weights forest) → report ≡ plain_report graph forest
    → IsPlainReport graph forest report
plainly graph forest report least is = record { report_is = is; lightest = subst (λ (r : Report). IsLightest graph.links r.total) (sym is) least }

-- a file has at most 2^30 arc lines, so a failed write counts its bytes exactly
pub broken_off : {X : Type 0} (found : GraphValue → List Link → Type 0) (says : GraphValue → List Link → X → Type 0)
    (answer : X) (written : ℕ) (graph : GraphValue) (forest : List Link) (n : ℕ) (s t : SourceState) (a b : SinkState)
    → IsReadOf MAX_BYTES (Ok graph) s t → found graph forest → length forest ≤ 2 ^ 55 → n ≡ graph.vertices
    → PrefixWentOut written (forest_text n forest) a b → says graph forest answer → IsBrokenOff found says written (streams s a) (streams t b)
broken_off found says answer written graph forest n s t a b read found_is few same part said = search (arith, whole_file, few_are_exact)

-- ---- bytes in memory: a source whose bytes are visible and which doesn't fail

-- the file that was read is all that there was
pub given_file : (bytes got : List ℕ) (s t : SourceState) → s.left ≡ Some bytes → Gave 0 1 got s t → got ≡ bytes
given_file bytes got s t known gave = sym (gave_to_end 0 1 bytes got s t known (omega arith) gave)

-- the forest of the file that was read is that of the bytes
gives : (bytes got : List ℕ) (s t : SourceState) (graph : GraphValue) (forest : List Link) → s.left ≡ Some bytes → Gave 0 1 got s t → IsFileOf got graph → IsLeast graph forest
    → HasForest bytes graph forest
gives bytes got s t graph forest known gave file least = search (arith, given_file)

pub fault_in_memory : (why : RunFault) (bytes : List ℕ) (s t : SourceState) (a b : SinkState)
    → s.left ≡ Some bytes → HadNoFailure s t → RanPlain (Err why) (streams s a) (streams t b) → IsFaultInMemory bytes why
fault_in_memory (fault.Read why) bytes s t a b known no_failure ran = reads_the_file bytes s t (Err why) known no_failure ran.refused
fault_in_memory (fault.Cut why) bytes s t a b known no_failure ran = let cause = ran.cause in cc
fault_in_memory (fault.Rounds round) bytes s t a b known no_failure ran = let cause = ran.cause in cc
fault_in_memory (fault.Missed link) bytes s t a b known no_failure ran = let cause = ran.cause in cc
fault_in_memory fault.Memory bytes s t a b known no_failure ran =
    (ran.graph, subst (λ (xs : List ℕ). IsFileOf xs ran.graph) (given_file bytes ran.bytes s t known ran.read) ran.file)
fault_in_memory (fault.Write written) bytes s t a b known no_failure ran =
    let given = gives bytes ran.bytes s t ran.graph ran.forest known ran.read ran.file ran.found_is in
    (forest_text ran.graph.vertices ran.forest, (ran.graph, ran.forest, given, refl), ran.part.within)

pub text_in_memory : (says : GraphValue → List Link → Type 0) (bytes text : List ℕ) (s t : SourceState) (a b : SinkState)
    → s.left ≡ Some bytes → a.held ≡ Some [] → b.held ≡ Some text → IsDone IsLeast says (streams s a) (streams t b) → IsForestTextOf bytes text
text_in_memory says bytes text s t a b known empty held ran = search (arith, gives, took_known)
