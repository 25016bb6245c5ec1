-- What a file describes: a graph, its minimum spanning forest, or a first error.
use Rattle.std.specs.Prelude.{◌≡◌, ℕ, ◌≤◌, ⊤, List, length, Some, Result, Err}
use Rattle.limits.specs.declared.TheConstants.{MAX_BYTES}
use Rattle.byte_streams.specs.Streams.{SourceState, HadNoFailure}
use Rattle.links.specs.Forest.{IsForestOf}
use Rattle.links.specs.declared.links.Link.{Link}
use Rattle.gr_text.specs.Graph.{GraphValue, IsGraphOf}
use Rattle.gr_text.specs.Fault.{IsFirstFault}
use Rattle.gr_text.specs.Reader.{FailsBy}
use Rattle.gr_text.specs.ForestText.{forest_text}
use Rattle.gr_text.specs.declared.faults.ReadFault.{ReadFault}
use Rattle.gr_text.specs.declared.faults.ReadFault.TheVariants as read
use Rattle.plain_run.specs.declared.fault.RunFault.{RunFault}
use Rattle.plain_run.specs.declared.fault.RunFault.TheVariants as fault

-- ---- files

-- the bytes are a file within the limit that describes this graph
pub record IsFileOf (bytes : List ℕ) (graph : GraphValue) : Type 0 where
  pub within : length bytes ≤ MAX_BYTES
  pub means : IsGraphOf bytes graph

-- and this is the graph's forest
pub record HasForest (bytes : List ℕ) (graph : GraphValue) (forest : List Link) : Type 0 where
  pub file : IsFileOf bytes graph
  pub least : IsForestOf graph.links forest

-- the bytes are a file within the limit and describe a graph
abbrev pub MeansGraph : List ℕ → Type 0
MeansGraph bytes = (graph : GraphValue) × IsFileOf bytes graph

-- the bytes describe no graph
abbrev pub MeansNothing : List ℕ → Type 0
MeansNothing bytes = (graph : GraphValue) → ¬ (IsGraphOf bytes graph)

-- this is the text of the forest of the graph that the bytes describe
abbrev pub IsForestTextOf : List ℕ → List ℕ → Type 0
IsForestTextOf bytes text =
    (graph : GraphValue) × (forest : List Link) × HasForest bytes graph forest × (text ≡ forest_text graph.vertices forest)

-- `written` is at most the number of bytes in the text of that forest
abbrev pub IsPartOfText : List ℕ → ℕ → Type 0
IsPartOfText bytes written = (text : List ℕ) × IsForestTextOf bytes text × (written ≤ length text)

-- Why a run with one thread has no text for these bytes, all of which are in memory. It is an error in reading them, or
-- out of memory for the forest of their graph. Or only a part of the text was written, because the text couldn't grow.
abbrev pub IsFaultInMemory : List ℕ → RunFault → Type 0
IsFaultInMemory bytes (fault.Read why) = FailsBy why MAX_BYTES bytes
IsFaultInMemory bytes fault.Memory = MeansGraph bytes
IsFaultInMemory bytes (fault.Write written) = IsPartOfText bytes written
IsFaultInMemory bytes other = ⊥

-- ---- what follows for a source whose bytes are visible to the contracts

-- the source is known to have this file, which is within the limit, and no read failed
pub record HasFile (bytes : List ℕ) (before after : SourceState) : Type 0 where
  pub known : before.left ≡ Some bytes
  pub no_failure : HadNoFailure before after
  pub within : length bytes ≤ MAX_BYTES

-- P holds for the error if the file wasn't read
abbrev pub OnRead : {X : Type 0} → Result X RunFault → (ReadFault → Type 0) → Type 0
OnRead (Err (fault.Read why)) P = P why
OnRead other P = ⊤

-- an error in reading is this file's first, or out of memory
abbrev pub IsFirstOf : List ℕ → ReadFault → Type 0
IsFirstOf bytes (read.Gr f) = IsFirstFault bytes f.line f.kind
IsFirstOf bytes read.Memory = ⊤
IsFirstOf bytes other = ⊥

-- the result is the first error of the bytes, or that there was no memory to read them
abbrev pub IsFirstFaultOf : {X : Type 0} → List ℕ → Result X RunFault → Type 0
IsFirstFaultOf bytes (Err (fault.Read why)) = IsFirstOf bytes why
IsFirstFaultOf bytes other = ⊥

-- the result isn't an error of the file or of its source: if the file wasn't read, there was no memory
abbrev pub IsNoRefusal : {X : Type 0} → Result X RunFault → Type 0
IsNoRefusal result = OnRead result (λ why. why ≡ read.Memory)
