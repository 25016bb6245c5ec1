use Rattle.std.proofs.Common.{◌∙◌, Vec, Ok, ap, length, arith}
use Rattle.links.specs.Link.{EndsUpTo}
use Rattle.links.specs.Cut.{joined}
use Rattle.forest_run.specs.Cuttings.{IsCutOf}
use Rattle.forest_run.specs.LinesRun.{RunsOverLines}
use Rattle.plain_run.specs.Outcomes.{IsSpanning, IsLeast}
use Rattle.plain_run.proofs.KnownFiles.{reads_the_file, first_of_file, no_fault_of_file, something_of_file}
use Rattle.plain_run.proofs.Lengths.{same_length}
use Rattle.plain_run.proofs.PlainRunning.{done}
use Rattle.forest_run.proofs.LinesRunning.{had_setback, shards_ends, few_enough, spanning, few_links, lines_went, served_report, cut_unsolved, cut_served, solve_unsolved, solve_served}
use Rattle.forest_run.proofs.LinesRunning.{cut_unhindered, lines_broken_off, served_broken_off}
use Rattle.forest_run.proofs.lines.run_lines.Goals as goal

-- ---- the file can't be read

pub returns-in-Err-clause-malformed : goal.returns-in-Err-clause-malformed
returns-in-Err-clause-malformed g c = λ bytes file nothing. first_of_file c.in-Err.fault _ _ c.in-Err.ensures.outcome bytes file

pub returns-in-Err-clause-lawful : goal.returns-in-Err-clause-lawful
returns-in-Err-clause-lawful g c = no_fault_of_file c.in-Err.fault _ _ c.in-Err.ensures.outcome

pub returns-in-Err-clause-ends_well : goal.returns-in-Err-clause-ends_well
returns-in-Err-clause-ends_well g c = λ served it.
    no_fault_of_file c.in-Err.fault _ _ c.in-Err.ensures.outcome it.bytes it.has (it.means.graph, it.means.file)

-- ---- the list can't be split

pub returns-in-Err-cut_links-clause-ran : goal.returns-in-Err-cut_links-clause-ran
returns-in-Err-cut_links-clause-ran g c =
    cut_unsolved g.row.A.Denot g.L.Line c.args.cutting c.args.lines.items c.in-Ok.graph _ _ _ c.in-Ok.ensures.outcome c.in-Err-cut_links.fault
    (rw c.links.ensures.links at c.in-Err-cut_links.ensures.refused)

pub returns-in-Err-cut_links-clause-served : goal.returns-in-Err-cut_links-clause-served
returns-in-Err-cut_links-clause-served g c = λ served.
    cut_served c.args.cutting c.in-Ok.graph _ _ _ c.in-Ok.ensures.outcome c.in-Err-cut_links.fault
    (rw c.links.ensures.links at c.in-Err-cut_links.ensures.refused)

pub returns-in-Err-cut_links-clause-malformed : goal.returns-in-Err-cut_links-clause-malformed
returns-in-Err-cut_links-clause-malformed g c = λ bytes file nothing. absurd (something_of_file _ _ _ c.in-Ok.ensures.outcome bytes file nothing)

pub returns-in-Err-cut_links-clause-ends_well : goal.returns-in-Err-cut_links-clause-ends_well
returns-in-Err-cut_links-clause-ends_well g c = λ served it.
    let read = reads_the_file it.bytes _ _ (Ok c.in-Ok.graph) it.has.known it.has.no_failure c.in-Ok.ensures.outcome in
    cut_unhindered c.args.cutting (length c.links.result.now) (length it.means.graph.links) c.in-Err-cut_links.fault c.in-Err-cut_links.ensures.refused
    (ap (λ ls. length ls) c.links.ensures.links ∙ same_length it.bytes c.in-Ok.graph it.means.graph read.1 it.means.file.means) it.means.allowed

-- ---- no forest is found

pub solve_lines-requires-clause-ends : goal.solve_lines-requires-clause-ends
solve_lines-requires-clause-ends g c κs within = search (arith, shards_ends)

pub returns-in-Err-solve_lines-clause-ran : goal.returns-in-Err-solve_lines-clause-ran
returns-in-Err-solve_lines-clause-ran g c =
    let cut : IsCutOf c.args.cutting c.in-Ok.graph.links c.in-Ok-cut_links.cut = rw c.links.ensures.links at c.in-Ok-cut_links.ensures.cut in
    rw c.run_fault_for.ensures
    (solve_unsolved g.row.A.Denot g.L.Line c.args.cutting c.args.lines.items c.in-Ok.graph _ _ _ c.in-Ok.ensures.outcome c.in-Ok-cut_links.cut cut c.in-Err-solve_lines.fault
    (rw c.n.ensures.vertices at c.in-Err-solve_lines.ensures.fault))

pub returns-in-Err-solve_lines-clause-served : goal.returns-in-Err-solve_lines-clause-served
returns-in-Err-solve_lines-clause-served g c = search (arith, solve_served)

pub returns-in-Err-solve_lines-clause-malformed : goal.returns-in-Err-solve_lines-clause-malformed
returns-in-Err-solve_lines-clause-malformed g c = λ bytes file nothing. absurd (something_of_file _ _ _ c.in-Ok.ensures.outcome bytes file nothing)

-- ---- a forest is found

pub returns-in-Ok-write_forest_par-clause-ran : goal.returns-in-Ok-write_forest_par-clause-ran
returns-in-Ok-write_forest_par-clause-ran g c =
    let solved = c.in-Ok-solve_lines.solved in
    let went : RunsOverLines g.row.A.Denot g.L.Line c.args.cutting c.args.lines.items solved.2.items c.in-Ok.graph solved.0 solved.1 =
    lines_went g.L.Line c.args.cutting c.in-Ok.graph c.in-Ok-cut_links.cut (rw c.links.ensures.links at c.in-Ok-cut_links.ensures.cut) c.args.lines.items solved.2.items solved.0 solved.1
    (rw c.n.ensures.vertices at c.in-Ok-solve_lines.ensures.went) in
    done IsSpanning _ c.in-Ok.graph solved.0 c.n-2.result _ _ _ _ c.in-Ok.ensures.outcome (spanning _ _ _ _ _ _ _ went) c.n-2.ensures.vertices c.in-Ok-write_forest_par.ensures.whole went

pub returns-in-Ok-write_forest_par-clause-served : goal.returns-in-Ok-write_forest_par-clause-served
returns-in-Ok-write_forest_par-clause-served g c = λ served.
    let solved = c.in-Ok-solve_lines.solved in
    let went : RunsOverLines g.row.A.Denot g.L.Line c.args.cutting c.args.lines.items solved.2.items c.in-Ok.graph solved.0 solved.1 =
    lines_went g.L.Line c.args.cutting c.in-Ok.graph c.in-Ok-cut_links.cut (rw c.links.ensures.links at c.in-Ok-cut_links.ensures.cut) c.args.lines.items solved.2.items solved.0 solved.1
    (rw c.n.ensures.vertices at c.in-Ok-solve_lines.ensures.went) in
    done IsLeast _ c.in-Ok.graph solved.0 c.n-2.result _ _ _ _ c.in-Ok.ensures.outcome
    (went.least served).0 c.n-2.ensures.vertices c.in-Ok-write_forest_par.ensures.whole (served_report _ _ _ _ _ _ _ went served)

pub returns-in-Ok-write_forest_par-clause-malformed : goal.returns-in-Ok-write_forest_par-clause-malformed
returns-in-Ok-write_forest_par-clause-malformed g c = λ bytes file nothing. absurd (something_of_file _ _ _ c.in-Ok.ensures.outcome bytes file nothing)

-- ---- not all of the forest's text was written

pub returns-clause-ran : goal.returns-clause-ran
returns-clause-ran g c =
    let solved = c.in-Ok-solve_lines.solved in
    let went : RunsOverLines g.row.A.Denot g.L.Line c.args.cutting c.args.lines.items solved.2.items c.in-Ok.graph solved.0 solved.1 =
    lines_went g.L.Line c.args.cutting c.in-Ok.graph c.in-Ok-cut_links.cut (rw c.links.ensures.links at c.in-Ok-cut_links.ensures.cut) c.args.lines.items solved.2.items solved.0 solved.1
    (rw c.n.ensures.vertices at c.in-Ok-solve_lines.ensures.went) in
    let found = spanning _ _ _ _ _ _ _ went in
    lines_broken_off g.L.Line c.args.cutting c.in-Ok.graph c.args.lines.items solved.0 solved.1 solved.2 _ c.n-2.result _ _ _ _ c.in-Ok.ensures.outcome found
    (few_enough _ _ (few_links _ _ _ _ _ _ _ went) c.links.ensures.few)
    c.n-2.ensures.vertices c.in-Err-write_forest_par.ensures.part went

pub returns-clause-served : goal.returns-clause-served
returns-clause-served g c = λ served.
    let solved = c.in-Ok-solve_lines.solved in
    let went : RunsOverLines g.row.A.Denot g.L.Line c.args.cutting c.args.lines.items solved.2.items c.in-Ok.graph solved.0 solved.1 =
    lines_went g.L.Line c.args.cutting c.in-Ok.graph c.in-Ok-cut_links.cut (rw c.links.ensures.links at c.in-Ok-cut_links.ensures.cut) c.args.lines.items solved.2.items solved.0 solved.1
    (rw c.n.ensures.vertices at c.in-Ok-solve_lines.ensures.went) in
    served_broken_off c.args.cutting c.in-Ok.graph solved.0 solved.1 solved.2 _ c.n-2.result _ _ _ _ c.in-Ok.ensures.outcome (went.least served).0
    (few_enough _ _ (few_links _ _ _ _ _ _ _ went) c.links.ensures.few)
    c.n-2.ensures.vertices c.in-Err-write_forest_par.ensures.part (served_report _ _ _ _ _ _ _ went served)

pub returns-clause-malformed : goal.returns-clause-malformed
returns-clause-malformed g c = λ bytes file nothing. absurd (something_of_file _ _ _ c.in-Ok.ensures.outcome bytes file nothing)

pub returns-clause-ends_well : goal.returns-clause-ends_well
returns-clause-ends_well g c = λ served it. had_setback _ _ _ _ c.in-Err-write_forest_par.ensures.part
