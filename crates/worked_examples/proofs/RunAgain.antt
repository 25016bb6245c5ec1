-- A run over a forest's text.
use Rattle.std.proofs.Common.{◌≡◌, ◌≤◌, ℕ, List, [], length, Some, Ok, sym, subst, arith}
use Rattle.limits.specs.declared.TheConstants.{MAX_BYTES}
use Rattle.byte_streams.specs.Streams.{SourceState, SinkState, HadNoFailure}
use Rattle.byte_streams.proofs.Streaming.{gave_to_end, took_known}
use Rattle.links.proofs.Least.{forest_is_lightest}
use Rattle.gr_text.specs.ForestText.{forest_text}
use Rattle.plain_run.specs.Files.{HasFile, IsForestTextOf}
use Rattle.plain_run.specs.Outcomes.{streams, IsSpanning}
use Rattle.plain_run.specs.PlainRun.{RanPlain, WritesAgain}
use Rattle.plain_run.specs.declared.report.Report.{Report}
use Rattle.worked_examples.specs.Again.{IsWrittenAgain}

-- if the source had the text of a file's forest and the sink was empty, a run writes that text again
pub written_again : (bytes text out : List ℕ) (report : Report) (s t : SourceState) (a b : SinkState)
    → IsForestTextOf bytes text → s.left ≡ Some text → HadNoFailure s t → a.held ≡ Some [] → b.held ≡ Some out
    → RanPlain (Ok report) (streams s a) (streams t b) → WritesAgain report (streams s a) (streams t b) → IsWrittenAgain bytes out report
written_again bytes text out report s t a b (graph, forest, has, is) known calm empty held ran again =
    let got : ran.bytes ≡ text = sym (gave_to_end 0 1 text ran.bytes s t known (omega arith) ran.read) in
    let within : length text ≤ MAX_BYTES = subst (λ (xs : List ℕ). length xs ≤ MAX_BYTES) got ran.file.within in
    let file : HasFile (forest_text graph.vertices forest) s t = subst (λ (xs : List ℕ). HasFile xs s t) is (record { known = known; no_failure = calm; within = within }) in
    let spanning : IsSpanning graph forest = (has.least.ascending, (forest_is_lightest graph.links forest has.least).0) in
    let wrote = again graph forest (record { bytes = bytes; file = has.file; spanning = spanning; text = file }) in
    let took = took_known 0 [] (forest_text graph.vertices forest) a b empty wrote.text in
    let itself : out ≡ forest_text graph.vertices forest = cc in
    record { graph = graph; forest = forest; least = has; itself = itself; links = wrote.links; total = wrote.total }
