-- What a run over lines did, derived from what its steps say.
use Rattle.std.proofs.Common.{◌≡◌, ℕ, zero, suc, ◌+◌, ◌<◌, ◌≤◌, ◌^◌, ◌⊎◌, inl, inr, true, List, [], ◌∷◌, length, get_or, take, None, Ok, Err, refl, ap, subst, ◌∙◌, arith}
use Rattle.std.specs.Prelude.{All, Contains, Vec}
use Rattle.std.proofs.lemmas.List.{length-append, get_or_append_left, get_or-append-add}
use Rattle.std.proofs.lemmas.List.Elements.{All-contains}
use Rattle.std.proofs.lemmas.List.Sums.{sum_by-cons}
use Rattle.limits.specs.declared.TheConstants.{MAX_ARCS, MAX_BYTES}
use Rattle.byte_streams.specs.Streams.{SourceState, SinkState, HadNoSetback}
use Rattle.byte_streams.proofs.Streaming.{took_unhindered}
use Rattle.gr_text.specs.Written.{PrefixWentOut}
use Rattle.links.specs.declared.links.Link.{Link}
use Rattle.links.specs.declared.cuts.CutFault.{CutFault}
use Rattle.links.specs.declared.cuts.CutFault.TheVariants as cut
use Rattle.links.specs.Cut.{joined, IsCutFault}
use Rattle.links.specs.Link.{EndsUpTo}
use Rattle.links.specs.Forest.{IsForestOf}
use Rattle.links.specs.Least.{IsSpanningForestOf, IsLightest}
use Rattle.gr_text.specs.ForestText.{forest_text}
use Rattle.gr_text.specs.Graph.{GraphValue}
use Rattle.round_theory.specs.Rounds.{IsMergingRounds}
use Rattle.gr_text.specs.Sourced.{IsReadOf}
use Rattle.round_core.specs.declared.solver.SolveFault.{SolveFault}
use Rattle.round_core.specs.declared.solver.SolveFault.TheVariants as solving
use Rattle.wires.specs.declared.line.Line as Line
use Rattle.wires.specs.Wires.{WireState, port_of}
use Rattle.forest_run.specs.declared.cutting.Cutting.{Cutting}
use Rattle.plain_run.specs.declared.fault.RunFault.TheVariants as fault
use Rattle.plain_run.specs.declared.report.Report.{Report}
use Rattle.port_rounds.specs.Lanes.{LaneState, count_if, open_count}
use Rattle.forest_run.specs.Cuttings.{cut_refusal, IsCutOf}
use Rattle.plain_run.specs.Outcomes.{streams, IsUnsolved, IsSpanning, IsLeast}
use Rattle.forest_run.specs.WiredLines.{AreServed, FindsOverLines, RefusesOverLines}
use Rattle.forest_run.specs.LinesRun.{IsLinesReport, RunsOverLines, IsLinesFault, run_fault, RanLines, IsHonestReport, IsServedReport, IsServedFault, RanServed}
use Rattle.plain_run.proofs.Lengths.{no_longer}
use Rattle.plain_run.proofs.PlainRunning.{unsolved, broken_off}
use Rattle.forest_run.proofs.NewWires.{served_honest}
use Rattle.forest_run.proofs.Transcripts.{have_transcripts}

-- ---- cuts

-- if the endpoints of the list's links are vertices, so are those of each shard's
pub shards_ends : (n : ℕ) (shards : List (List Link)) → EndsUpTo n (joined shards) → All (EndsUpTo n) shards
shards_ends n [] ends i d b = absurd (omega arith)
shards_ends n (s ∷ shards) ends zero d b = λ i e within. subst (λ l. l.high ≤ n) (get_or_append_left s (joined shards) e i within) (ends i e (omega (arith, length-append s (joined shards))))
shards_ends n (s ∷ shards) ends (suc k) d b =
    shards_ends n shards (λ i e within. subst (λ l. l.high ≤ n) (get_or-append-add s (joined shards) i e) (ends (length s + i) e (omega (arith, length-append s (joined shards))))) k d (omega arith)

-- a graph has so few links that the length of its forest's text can be counted
pub few_enough : (n m : ℕ) → n ≤ m → m ≤ MAX_ARCS → n ≤ 2 ^ 55
few_enough n m less few = omega (arith, less, few)

-- ---- the forest and the report

open_all : {L : Type 0} → (lanes : List (LaneState (WireState L))) → ((i : ℕ) (d : LaneState (WireState L)) → i < length lanes
    → (get_or lanes i d).port.is_open ≡ true) → open_count port_of lanes ≡ length lanes
open_all [] opened = refl
open_all {L = L} (lane ∷ lanes) opened =
    let here : count_if lane.port.is_open ≡ 1 = ap count_if (opened 0 lane (omega arith)) in
    omega (arith, sum_by-cons (λ (l : LaneState (WireState L)). count_if (port_of l.port).is_open) lane lanes, here, open_all lanes (λ i d b. opened (suc i) d (omega arith)))

-- what a run says about a graph of which it found a forest
module _ {L A : Type 0} (over : Line.Ghosts L) (cutting : Cutting) (graph : GraphValue) (shards : List (List Link)) (is : IsCutOf cutting graph.links shards)
    (before after : List L) (forest : List Link) (report : Report)
    (solved : FindsOverLines A over graph.vertices shards before after forest report) where
  opened_all : open_count port_of solved.lanes ≡ length before
  opened_all = open_all solved.lanes (λ i d b. (solved.new.each i d.port.client.line d (let e = solved.new.number in omega arith)).opened) ∙ solved.new.number

  reported : IsLinesReport (length before) graph (length shards) forest report
  reported = search (arith, opened_all)

  least : AreServed over before → IsLeast graph forest × IsHonestReport graph report
  least served =
      let honest = served_honest over before shards solved.lanes solved.new served in (
        subst (λ (ls : List Link). IsForestOf ls forest) is.whole (solved.went.honest_forest honest),
        record {
          rounds_are = subst (λ (ls : List Link). IsMergingRounds graph.vertices ls report.rounds) is.whole (solved.went.honest_rounds honest);
          in_time = solved.went.in_time;
          lightest = subst (λ (ls : List Link). IsLightest ls report.total) is.whole (solved.went.honest_total honest);
        },
      )

  pub lines_went : RunsOverLines A over cutting before after graph forest report
  lines_went = record {
    cut = shards;
    cut_is = is;
    report_is = reported;
    solved = solved;
    least = least;
    transcripts = λ scanned closed fresh.
        have_transcripts over graph.vertices shards before after forest report solved scanned (let all = opened_all in omega (arith, solved.went.closed, closed, all)) fresh;
  }

-- what follows for the forest and the report
module _ {L A : Type 0} (over : Line.Ghosts L) (cutting : Cutting) (before after : List L) (graph : GraphValue) (forest : List Link) (report : Report)
    (went : RunsOverLines A over cutting before after graph forest report) where
  pub spanning : IsSpanning graph forest
  spanning =
      let found = went.solved.went in
      let f = found.finished in (
        f.ascending,
        subst (λ (ls : List Link). IsSpanningForestOf ls forest) went.cut_is.whole
            (record { from_list = λ l l_in. All-contains (Contains (joined went.cut)) forest l found.from_list l_in; no_cycle = f.no_cycle; spans = f.spans }),
      )

  pub few_links : length forest ≤ length graph.links
  few_links = no_longer forest graph.links spanning.0 (subst (λ (ls : List Link). All (Contains ls) forest) went.cut_is.whole went.solved.went.from_list)

  pub served_report : AreServed over before → IsServedReport cutting graph forest report
  served_report served = record { allowed = went.cut_is.allowed; honest = (went.least served).1; total = went.report_is.total }

-- ---- why there is no forest

module _ {L : Type 0} (A : Type 0) (over : Line.Ghosts L) (cutting : Cutting) (lines : List L) (graph : GraphValue) (s t : SourceState) (a : SinkState) (read : IsReadOf MAX_BYTES (Ok graph) s t) where
  pub cut_unsolved : (why : CutFault) → IsCutFault (cut_refusal cutting (length graph.links)) why
      → IsUnsolved (λ g. IsLinesFault A over cutting lines g (fault.Cut why)) (streams s a) (streams t a)
  cut_unsolved why refused = unsolved (λ g. IsLinesFault A over cutting lines g (fault.Cut why)) graph s t a read refused

  pub solve_unsolved : (shards : List (List Link)) → IsCutOf cutting graph.links shards → (why : SolveFault) → (why ≡ solving.Memory) ⊎ RefusesOverLines A over graph.vertices shards lines why
      → RanLines {A = A} over cutting lines (Err (run_fault why)) (streams s a) (streams t a)
  solve_unsolved shards is (solving.Rounds round) (inl none) = absurd (cc)
  solve_unsolved shards is (solving.Rounds round) (inr refused) =
      unsolved (λ g. IsLinesFault A over cutting lines g (fault.Rounds round)) graph s t a read (record { cut = shards; cut_is = is; refused = refused })
  solve_unsolved shards is (solving.Missed link) (inl none) = absurd (cc)
  solve_unsolved shards is (solving.Missed link) (inr refused) =
      unsolved (λ g. IsLinesFault A over cutting lines g (fault.Missed link)) graph s t a read (record { cut = shards; cut_is = is; refused = refused })
  solve_unsolved shards is solving.Memory why = unsolved (λ g. IsLinesFault A over cutting lines g fault.Memory) graph s t a read is.allowed

module _ (cutting : Cutting) (graph : GraphValue) (s t : SourceState) (a : SinkState) (read : IsReadOf MAX_BYTES (Ok graph) s t) where
  pub cut_served : (why : CutFault) → IsCutFault (cut_refusal cutting (length graph.links)) why → IsUnsolved (λ g. IsServedFault cutting g (fault.Cut why)) (streams s a) (streams t a)
  cut_served why refused = unsolved (λ g. IsServedFault cutting g (fault.Cut why)) graph s t a read refused

  pub solve_served : (X : Type 0) (shards : List (List Link)) → IsCutOf cutting graph.links shards → (why : SolveFault) → why ≡ solving.Memory
      → RanServed {X = X} cutting (Err (run_fault why)) (streams s a) (streams t a)
  solve_served X shards is (solving.Rounds round) none = absurd (cc)
  solve_served X shards is (solving.Missed link) none = absurd (cc)
  solve_served X shards is solving.Memory none = unsolved (λ g. IsServedFault cutting g fault.Memory) graph s t a read is.allowed

-- a cut that is allowed fails only for lack of memory
pub cut_unhindered : (cutting : Cutting) (links others : ℕ) (why : CutFault) → IsCutFault (cut_refusal cutting links) why → links ≡ others → cut_refusal cutting others ≡ None
    → why ≡ cut.Memory
cut_unhindered cutting links others why refused same allowed = search arith

-- a sink that took a part of the text and then failed isn't one that had no error
pub had_setback : (written : ℕ) (text : List ℕ) (a b : SinkState) → PrefixWentOut written text a b → ¬ HadNoSetback a b
had_setback written text a b part no_failure = absurd (omega (arith, took_unhindered 1 (take part.count text) a b no_failure part.took))

-- ---- a forest whose text was written in part

pub lines_broken_off : {L A : Type 0} (over : Line.Ghosts L) (cutting : Cutting) (graph : GraphValue) (before : List L) (forest : List Link) (report : Report) (after : Vec L A)
    (written n : ℕ) (s t : SourceState) (a b : SinkState) → IsReadOf MAX_BYTES (Ok graph) s t → IsSpanning graph forest → length forest ≤ 2 ^ 55 → n ≡ graph.vertices
    → PrefixWentOut written (forest_text n forest) a b → RunsOverLines A over cutting before after.items graph forest report
    → RanLines {A = A} over cutting before (Err (fault.Write written)) (streams s a) (streams t b)
lines_broken_off {L = L} {A = A} over cutting graph before forest report after written n s t a b read found few same part said =
    broken_off {X = Report × Vec L A} IsSpanning (λ g f r. RunsOverLines A over cutting before r.1.items g f r.0) (report, after) written graph forest n s t a b read found few same part said

pub served_broken_off : {X : Type 0} (cutting : Cutting) (graph : GraphValue) (forest : List Link) (report : Report) (after : X)
    (written n : ℕ) (s t : SourceState) (a b : SinkState) → IsReadOf MAX_BYTES (Ok graph) s t → IsLeast graph forest → length forest ≤ 2 ^ 55 → n ≡ graph.vertices
    → PrefixWentOut written (forest_text n forest) a b → IsServedReport cutting graph forest report
    → RanServed {X = X} cutting (Err (fault.Write written)) (streams s a) (streams t b)
served_broken_off {X = X} cutting graph forest report after written n s t a b read found few same part said =
    broken_off {X = Report × X} IsLeast (λ g f r. IsServedReport cutting g f r.0) (report, after) written graph forest n s t a b read found few same part said
