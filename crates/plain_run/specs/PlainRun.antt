-- Runs without workers.
use Rattle.std.specs.Prelude.{◌≡◌, ℕ, ℤ, List, length, Option, Result, IfOk, OnOk}
use Rattle.byte_streams.specs.Streams.{Took, IsFlushed}
use Rattle.links.specs.declared.links.Link.{Link}
use Rattle.links.specs.Least.{sum_of_weights, IsLightest}
use Rattle.gr_text.specs.Graph.{GraphValue}
use Rattle.gr_text.specs.ForestText.{forest_text}
use Rattle.plain_run.specs.declared.report.Report.{Report}
use Rattle.plain_run.specs.declared.fault.RunFault.{RunFault}
use Rattle.plain_run.specs.declared.fault.RunFault.TheVariants as fault
use Rattle.plain_run.specs.Files.{IsFileOf, HasFile, MeansGraph, MeansNothing, IsFirstFaultOf, IsNoRefusal}
use Rattle.plain_run.specs.Outcomes.{Streams, Ran, IsSpanning, IsLeast}

-- a report with this many vertices and edges and this total weight of the forest; no rounds, shards, asks or workers
abbrev pub counted_report : ℕ → ℕ → ℤ → Report
counted_report vertices links total = record {
  vertices = vertices;
  links = links;
  rounds = 0;
  shards = 0;
  asked = 0;
  answered = 0;
  alone = 0;
  closed = 0;
  total = total;
}

abbrev pub plain_report : GraphValue → List Link → Report
plain_report graph forest = counted_report graph.vertices (length graph.links) (sum_of_weights forest)

-- what a plain run reports about a graph and its forest: no spanning forest of the graph weighs less than the total
pub record IsPlainReport (graph : GraphValue) (forest : List Link) (report : Report) : Type 0 where
  pub report_is : report ≡ plain_report graph forest
  pub lightest : IsLightest graph.links report.total

-- why a plain run has no forest of a graph: only for lack of memory
abbrev pub IsPlainFault : GraphValue → RunFault → Type 0
IsPlainFault graph why = why ≡ fault.Memory

-- what a plain run with this result did
abbrev pub RanPlain : Result Report RunFault → Streams → Streams → Type 0
RanPlain = Ran IsLeast IsPlainReport IsPlainFault

-- ---- a forest of a forest

-- the source has the text of a spanning forest of this graph, which some file describes
pub record HasForestOf (graph : GraphValue) (forest : List Link) (before after : Streams) : Type 0 where
  pub bytes : List ℕ
  pub file : IsFileOf bytes graph
  pub spanning : IsSpanning graph forest
  pub text : HasFile (forest_text graph.vertices forest) before.source after.source

-- the text of the forest was written, and its number of edges and their total weight were reported
pub record HasWritten (graph : GraphValue) (forest : List Link) (report : Report) (before after : Streams) : Type 0 where
  pub text : Took 0 (forest_text graph.vertices forest) before.sink after.sink
  pub links : report.links ≡ length forest
  pub total : report.total ≡ sum_of_weights forest

-- if the source has the text of a spanning forest, which a run may have written, the same text was written again
abbrev pub WritesAgain : Report → Streams → Streams → Type 0
WritesAgain report before after =
    (graph : GraphValue) (forest : List Link) → HasForestOf graph forest before after → HasWritten graph forest report before after

-- ---- all that a plain run promises

-- What a plain run with this result did. `unflushed` are the bytes in its sink that wait for a flush afterwards, and
-- the sink can be written to again if `ready`.
pub record RunsPlain (result : Result Report RunFault) (before after : Streams) (unflushed : Option (List ℕ)) (ready : Type 0) : Type 0 where
  -- the source was read to its end and exactly the forest's text was written, or the error says what was done
  pub ran : RanPlain result before after
  -- so if no read fails, an invalid file gives its first error, and a valid one doesn't give an error of the file
  pub malformed : (bytes : List ℕ) → HasFile bytes before.source after.source → MeansNothing bytes → IsFirstFaultOf bytes result
  pub lawful : (bytes : List ℕ) → HasFile bytes before.source after.source → MeansGraph bytes → IsNoRefusal result
  -- the text of a forest is written again unchanged
  pub itself : IfOk result (λ report. WritesAgain report before after)
  -- if the run succeeds, no byte waits for a flush, as far as the sink shows, and the sink can be written to again
  pub flushed : OnOk result (IsFlushed unflushed)
  pub again : OnOk result ready
