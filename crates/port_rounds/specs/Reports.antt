-- What a run reports.
use Rattle.std.specs.Prelude.{◌≡◌, ℕ, ◌+◌, ◌*◌, List, length}
use Rattle.links.specs.declared.links.Link.{Link}
use Rattle.links.specs.Cut.{joined}
use Rattle.links.specs.Least.{sum_of_weights}
use Rattle.plain_run.specs.declared.report.Report.{Report}

-- A report of a run for the vertices 1 to `n` over a cut, which found this forest. Each ask brought an answer or closed
-- a port, and each shard of each round was answered or scanned alone.
pub record IsReportOf (n : ℕ) (cut : List (List Link)) (forest : List Link) (report : Report) : Type 0 where
  pub vertices : report.vertices ≡ n
  pub links : report.links ≡ length (joined cut)
  pub shards : report.shards ≡ length cut
  pub asked : report.asked ≡ report.answered + report.closed
  pub answered : report.answered + report.alone ≡ (report.rounds + 1) * length cut
  pub total : report.total ≡ sum_of_weights forest
