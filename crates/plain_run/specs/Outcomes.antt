-- What a run does to its source and its sink, whatever finds the forest.
use Rattle.std.specs.Prelude.{ℕ, List, [], Result, Ok, Err}
use Rattle.limits.specs.declared.TheConstants.{MAX_BYTES}
use Rattle.byte_streams.specs.Streams.{SourceState, SinkState, Gave, Took, WentOut}
use Rattle.links.specs.Forest.{IsForestOf}
use Rattle.links.specs.Link.{IsAscending}
use Rattle.links.specs.Least.{IsSpanningForestOf}
use Rattle.links.specs.declared.links.Link.{Link}
use Rattle.gr_text.specs.Graph.{GraphValue}
use Rattle.gr_text.specs.ForestText.{forest_text}
use Rattle.gr_text.specs.Sourced.{IsReadOf}
use Rattle.gr_text.specs.declared.faults.ReadFault.{ReadFault}
use Rattle.plain_run.specs.Files.{IsFileOf}
use Rattle.plain_run.specs.declared.fault.RunFault.{RunFault}
use Rattle.plain_run.specs.declared.fault.RunFault.TheVariants as fault

-- the states of a run's two streams, as far as they are visible
pub record Streams : Type 0 where
  pub source : SourceState
  pub sink : SinkState

abbrev pub streams : SourceState → SinkState → Streams
streams source sink = record { source = source; sink = sink }

-- the states of a run's source and sink
abbrev pub known : {S W : Type 0} → (S → SourceState) → (W → SinkState) → S → W → Streams
known source_of sink_of source sink = record { source = source_of source; sink = sink_of sink }

-- what may hold for a graph and edges of it, and for a result together with them
abbrev pub ForestFact : Type 1
ForestFact = GraphValue → List Link → Type 0

abbrev pub AnswerFact : Type 0 → Type 1
AnswerFact X = GraphValue → List Link → X → Type 0

-- The source was read to its end, a forest of its graph was found, and exactly the forest's text was written. `says`
-- holds for the graph and the forest.
pub record IsDone (found says : ForestFact) (before after : Streams) : Type 0 where
  pub bytes : List ℕ
  pub graph : GraphValue
  pub forest : List Link
  pub read : Gave 0 1 bytes before.source after.source
  pub file : IsFileOf bytes graph
  pub found_is : found graph forest
  pub written : Took 0 (forest_text graph.vertices forest) before.sink after.sink
  pub said : says graph forest

-- reading the source gave this error, and nothing was written
pub record IsUnread (why : ReadFault) (before after : Streams) : Type 0 where
  pub refused : IsReadOf MAX_BYTES (Err why) before.source after.source
  pub nothing : Took 0 [] before.sink after.sink

-- the source was read to its end and describes a graph, for which `why` holds, and nothing was written
pub record IsUnsolved (why : GraphValue → Type 0) (before after : Streams) : Type 0 where
  pub bytes : List ℕ
  pub graph : GraphValue
  pub read : Gave 0 1 bytes before.source after.source
  pub file : IsFileOf bytes graph
  pub cause : why graph
  pub nothing : Took 0 [] before.sink after.sink

-- The source was read to its end, a forest of its graph was found, and `written` bytes of its text were written before
-- the sink failed. For the graph and the forest, `says` holds with some result of a run that succeeds.
pub record IsBrokenOff {X : Type 0} (found : ForestFact) (says : AnswerFact X) (written : ℕ) (before after : Streams) : Type 0 where
  pub bytes : List ℕ
  pub graph : GraphValue
  pub forest : List Link
  pub read : Gave 0 1 bytes before.source after.source
  pub file : IsFileOf bytes graph
  pub found_is : found graph forest
  pub part : WentOut written (forest_text graph.vertices forest) before.sink after.sink
  pub answer : X
  pub said : says graph forest answer

-- What a run with this result did. `found` says which edges it may have found as a graph's forest, `says` what its
-- result says about both, and `why` why it may have found none.
abbrev pub Ran : {X : Type 0} → ForestFact → AnswerFact X → (GraphValue → RunFault → Type 0) → Result X RunFault → Streams → Streams → Type 0
Ran found says why (Ok x) = IsDone found (λ graph forest. says graph forest x)
Ran found says why (Err (fault.Read fault)) = IsUnread fault
Ran found says why (Err (fault.Write written)) = IsBrokenOff found says written
Ran found says why (Err other) = IsUnsolved (λ graph. why graph other)

-- the edges, in the order of their keys, are a spanning forest of the graph
abbrev pub IsSpanning : GraphValue → List Link → Type 0
IsSpanning graph forest = IsAscending forest × IsSpanningForestOf graph.links forest

-- the edges are the graph's minimum spanning forest
abbrev pub IsLeast : GraphValue → List Link → Type 0
IsLeast graph forest = IsForestOf graph.links forest
