-- A forest's text that a second run reads and writes again.
use Rattle.std.specs.Prelude.{◌≡◌, ℕ, List, length}
use Rattle.links.specs.Least.{sum_of_weights}
use Rattle.links.specs.declared.links.Link.{Link}
use Rattle.gr_text.specs.Graph.{GraphValue}
use Rattle.gr_text.specs.ForestText.{forest_text}
use Rattle.plain_run.specs.Files.{HasForest}
use Rattle.plain_run.specs.declared.report.Report.{Report}

-- `text` is that of the forest of these bytes; the run that wrote it counted exactly the forest's links, and their
-- total
pub record IsWrittenAgain (bytes text : List ℕ) (report : Report) : Type 0 where
  pub graph : GraphValue
  pub forest : List Link
  pub least : HasForest bytes graph forest
  pub itself : text ≡ forest_text graph.vertices forest
  pub links : report.links ≡ length forest
  pub total : report.total ≡ sum_of_weights forest
