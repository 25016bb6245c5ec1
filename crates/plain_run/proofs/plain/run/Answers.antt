use Rattle.std.proofs.Common.{rules, refl, ap, length, arith}
use Rattle.links.proofs.Least.{lightest_forest}
use Rattle.gr_text.specs.Graph.{with_links}
use Rattle.plain_run.specs.Outcomes.{IsLeast}
use Rattle.plain_run.proofs.KeptLinks.{few_read, forest_of_all}
use Rattle.plain_run.proofs.KnownFiles.{first_of_file, no_fault_of_file, something_of_file}
use Rattle.plain_run.proofs.PlainRunning.{unread, unsolved, done, broken_off, plainly}
use Rattle.plain_run.proofs.Again.{writes_again}
use Rattle.plain_run.specs.PlainRun.{IsPlainReport, plain_report}
use Rattle.plain_run.proofs.plain.run.Goals as goal

pub returns-in-Err : goal.returns-in-Err
returns-in-Err g c = record {
  ran = unread c.in-Err.fault _ _ _ c.in-Err.ensures.outcome;
  malformed = λ bytes file nothing. first_of_file c.in-Err.fault _ _ c.in-Err.ensures.outcome bytes file;
  lawful = no_fault_of_file c.in-Err.fault _ _ c.in-Err.ensures.outcome;
  itself = tt;
  flushed = tt;
  again = tt;
}

pub overflow_add-count : goal.overflow_add-count
overflow_add-count g c =
    let few = few_read _ _ c.in-Ok.graph _ _ c.in-Ok.ensures.outcome in
    let same = ap length c.into_links-links.ensures.links in
    omega (arith, few, same)

pub returns-in_default : goal.returns-in_default
returns-in_default g c =
    let (all, kept, read) = c.in-Ok.ensures.outcome in
    record {
      ran = unsolved _ _ _ _ _ read refl;
      malformed = λ bytes file nothing. absurd (something_of_file _ _ _ read bytes file nothing);
      lawful = λ bytes file means. tt;
      itself = tt;
      flushed = tt;
      again = tt;
    }

pub returns-in-Ok-write : goal.returns-in-Ok-write
returns-in-Ok-write g c =
    let (all, kept, read) = c.in-Ok.ensures.outcome in
    let forest = c.in-Ok-forest_by in
    let least = forest_of_all _ _ all _ forest.forest kept (rw c.into_links-links.ensures.links at forest.ensures.forest) in
    let ran =
    done IsLeast _ _ forest.forest _ _ _ _ _ read least c.n-n.ensures.vertices
    c.in-Ok-write.ensures.whole (plainly (with_links all c.in-Ok.graph) forest.forest _ (lightest_forest all forest.forest least) (rw kept.counted (search rules))) in
    record {
      ran = ran;
      malformed = λ bytes file nothing. absurd (something_of_file _ _ _ read bytes file nothing);
      lawful = λ bytes file means. tt;
      itself = writes_again _ _ _ ran;
      flushed = c.in-Ok-write.ensures.flushed;
      again = c.in-Ok-write.ensures.again;
    }

pub returns : goal.returns
returns g c =
    let (all, kept, read) = c.in-Ok.ensures.outcome in
    let forest = c.in-Ok-forest_by in
    let least = forest_of_all _ _ all _ forest.forest kept (rw c.into_links-links.ensures.links at forest.ensures.forest) in
    let whole = with_links all c.in-Ok.graph in
    record {
      ran = broken_off IsLeast IsPlainReport (plain_report whole forest.forest) _ whole forest.forest _ _ _ _ _ read least
          (omega (arith, forest.ensures.few, c.into_links-links.ensures.few, ap length c.into_links-links.ensures.links)) c.n-n.ensures.vertices
          c.in-Err-write.ensures.part (plainly whole forest.forest _ (lightest_forest all forest.forest least) refl);
      malformed = λ bytes file nothing. absurd (something_of_file _ _ _ read bytes file nothing);
      lawful = λ bytes file means. tt;
      itself = tt;
      flushed = tt;
      again = tt;
    }
