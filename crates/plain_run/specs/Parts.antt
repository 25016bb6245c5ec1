-- Several files as parts of one graph, which has the edges of all of them.
use Rattle.std.specs.Prelude.{◌≡◌, ◌≢◌, ◌<◌, ◌≤◌, ◌*◌, ⊤, ℕ, List, [], ◌∷◌, ◌++◌, length, All, Option, Result, Ok, Err, OnOk}
use Rattle.std.specs.List.{flat_map}
use Rattle.limits.specs.declared.TheConstants.{MAX_ARCS, MAX_BYTES, MAX_VERTICES}
use Rattle.byte_streams.specs.Streams.{SourceState, SinkState, Gave, Took, WentOut, IsFlushed}
use Rattle.links.specs.Covers.{IsCoveredBy}
use Rattle.links.specs.Forest.{IsForestOf}
use Rattle.links.specs.Link.{EndsUpTo}
use Rattle.links.specs.declared.links.Link.{Link}
use Rattle.gr_text.specs.Graph.{GraphValue}
use Rattle.gr_text.specs.ForestText.{forest_text}
use Rattle.gr_text.specs.Sourced.{IsReadOf}
use Rattle.gr_text.specs.declared.faults.ReadFault.TheVariants as read
use Rattle.plain_run.specs.Files.{IsFileOf, HasFile, IsFirstOf, MeansGraph, MeansNothing}
use Rattle.plain_run.specs.PlainRun.{IsPlainReport}
use Rattle.plain_run.specs.declared.fault.PartFault.{PartFault}
use Rattle.plain_run.specs.declared.fault.PartFault.TheVariants as part
use Rattle.plain_run.specs.declared.fault.RunFault.{RunFault}
use Rattle.plain_run.specs.declared.fault.RunFault.TheVariants as fault
use Rattle.plain_run.specs.declared.parts.TheConstants.{MAX_FILES}
use Rattle.plain_run.specs.declared.report.Report.{Report}

-- What is stored of the files so far: their common number of vertices, some of their edges, and how many edges and
-- files there were.
pub record PartsValue : Type 0 where
  pub vertices : ℕ
  pub kept : List Link
  pub count : ℕ
  pub files : ℕ

-- what holds for any parts: endpoints are vertices, at most as many edges are kept as there were, and the numbers are
-- within the limits
pub record AreLawfulParts (parts : PartsValue) : Type 0 where
  pub few_vertices : parts.vertices ≤ MAX_VERTICES
  pub ends : EndsUpTo parts.vertices parts.kept
  pub no_more : length parts.kept ≤ parts.count
  pub few : parts.count ≤ parts.files * MAX_ARCS
  pub few_files : parts.files ≤ MAX_FILES

-- the edges of all graphs, one list after the other
abbrev pub links_of_all : List GraphValue → List Link
links_of_all graphs = flat_map (λ graph. graph.links) graphs

-- the graph with n vertices and the edges of all graphs
abbrev pub joined_graph : ℕ → List GraphValue → GraphValue
joined_graph n graphs = record { vertices = n; links = links_of_all graphs }

-- the parts represent these graphs: each has this many vertices, and the kept edges cover the edges of all
pub record ArePartsOf (graphs : List GraphValue) (parts : PartsValue) : Type 0 where
  pub one_number : All (λ graph. graph.vertices ≡ parts.vertices) graphs
  pub cover : IsCoveredBy (links_of_all graphs) parts.kept
  pub counted : parts.count ≡ length (links_of_all graphs)
  pub files : parts.files ≡ length graphs

-- ---- one more file

-- the source was read to its end and describes a graph, which is added after those that the parts represent
pub record IsAdded (old new : PartsValue) (before after : SourceState) : Type 0 where
  pub bytes : List ℕ
  pub graph : GraphValue
  pub read : Gave 0 1 bytes before after
  pub file : IsFileOf bytes graph
  pub parts : (graphs : List GraphValue) → ArePartsOf graphs old → ArePartsOf (graphs ++ graph ∷ []) new

-- The source was read to its end and describes a graph with another number of vertices than the wanted one, which the
-- files before it have.
pub record HasOtherVertices (vertices wanted : ℕ) (old : PartsValue) (before after : SourceState) : Type 0 where
  pub bytes : List ℕ
  pub graph : GraphValue
  pub read : Gave 0 1 bytes before after
  pub file : IsFileOf bytes graph
  pub vertices_are : vertices ≡ graph.vertices
  pub wanted_is : wanted ≡ old.vertices
  pub differ : vertices ≢ wanted
  pub some_before : 0 < old.files

-- What one more file did to the parts: it was added, or it wasn't read (for an error in it, or for lack of memory), or
-- it has another number of vertices.
abbrev pub Adds : PartsValue → Result PartsValue PartFault → SourceState → SourceState → Type 0
Adds old (Ok new) = IsAdded old new
Adds old (Err (part.Read why)) = IsReadOf MAX_BYTES (Err why)
Adds old (Err (part.OtherVertices vertices wanted)) = HasOtherVertices vertices wanted old

-- the result is the first error of the bytes, or that there was no memory to read them
abbrev pub IsFirstFaultOfPart : {X : Type 0} → List ℕ → Result X PartFault → Type 0
IsFirstFaultOfPart bytes (Err (part.Read why)) = IsFirstOf bytes why
IsFirstFaultOfPart bytes other = ⊥

-- the result isn't an error of the file or of its source: if the file wasn't read, there was no memory
abbrev pub IsNoRefusalOfPart : {X : Type 0} → Result X PartFault → Type 0
IsNoRefusalOfPart (Err (part.Read why)) = why ≡ read.Memory
IsNoRefusalOfPart other = ⊤

-- if the source has an invalid file and no read of it fails, the result is the file's first error
abbrev pub RefusesFile : {X : Type 0} → Result X PartFault → SourceState → SourceState → Type 0
RefusesFile result before after = (bytes : List ℕ) → HasFile bytes before after → MeansNothing bytes → IsFirstFaultOfPart bytes result

-- if it has a valid file, the result isn't an error of the file
abbrev pub AcceptsFile : {X : Type 0} → Result X PartFault → SourceState → SourceState → Type 0
AcceptsFile result before after = (bytes : List ℕ) → HasFile bytes before after → MeansGraph bytes → IsNoRefusalOfPart result

-- ---- the forest of all

-- this is the graph's forest, whose text was written, and this is its report
pub record IsWrittenForest (graph : GraphValue) (report : Report) (before after : SinkState) : Type 0 where
  pub forest : List Link
  pub least : IsForestOf graph.links forest
  pub text : Took 0 (forest_text graph.vertices forest) before after
  pub said : IsPlainReport graph forest report

-- this many bytes of the text of the graph's forest were written before the sink failed
pub record IsPartOfForest (graph : GraphValue) (written : ℕ) (before after : SinkState) : Type 0 where
  pub forest : List Link
  pub least : IsForestOf graph.links forest
  pub part : WentOut written (forest_text graph.vertices forest) before after

-- The result and the effect of finding and writing the forest of a graph: its text was written, or a part of it, or
-- nothing because there was no memory.
abbrev pub WritesForestOf : GraphValue → Result Report RunFault → SinkState → SinkState → Type 0
WritesForestOf graph (Ok report) = IsWrittenForest graph report
WritesForestOf graph (Err (fault.Write written)) = IsPartOfForest graph written
WritesForestOf graph (Err fault.Memory) = Took 0 []
WritesForestOf graph (Err other) = λ _ _. ⊥

-- What writing the forest of all files' edges did if it returned this. `unflushed` are the bytes in the sink that wait
-- for a flush afterwards, and the sink can be written to again if `ready`.
pub record WritesParts (parts : PartsValue) (result : Result Report RunFault) (before after : SinkState) (unflushed : Option (List ℕ)) (ready : Type 0) : Type 0 where
  -- Exactly the text of the forest of the files' edges was written, taken in the order of the files, or a part of it.
  -- If there was no memory, nothing was written. The edges of all files are counted.
  pub written : (graphs : List GraphValue) → ArePartsOf graphs parts → WritesForestOf (joined_graph parts.vertices graphs) result before after
  -- if it succeeds, no byte waits for a flush, as far as the sink shows, and the sink can be written to again
  pub flushed : OnOk result (IsFlushed unflushed)
  pub again : OnOk result ready
