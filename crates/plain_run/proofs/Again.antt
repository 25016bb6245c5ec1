-- The text of a forest is written again.
use Rattle.std.proofs.Common.{◌≡◌, ◌≤◌, ℕ, zero, suc, List, [], ◌∷◌, length, map, max, Ok, ap, subst, ◌∙◌, arith}
use Rattle.std.specs.Prelude.{All, Contains, filter}
use Rattle.std.proofs.lemmas.List.Elements.{All-from_recursion, All-filter, All-head, All-tail, All-contains, Contains-get_or}
use Rattle.limits.specs.declared.TheConstants.{MAX_ARCS}
use Rattle.byte_streams.specs.Streams.{Took}
use Rattle.links.specs.Arc.{Arc}
use Rattle.links.specs.Link.{EndsUpTo, AreLinksOf, key_of, arc_key, is_no_loop}
use Rattle.links.specs.Least.{sum_of_weights}
use Rattle.links.specs.declared.links.Link.{Link}
use Rattle.gr_text.specs.Graph.{IsArcOf, IsGraphOf}
use Rattle.gr_text.specs.ForestText.{forest_text}
use Rattle.gr_text.proofs.ForestMeans.{forest_text_means_its_links, forest_text_gives_itself}
use Rattle.plain_run.specs.declared.report.Report.{Report}
use Rattle.plain_run.specs.Outcomes.{Streams}
use Rattle.plain_run.specs.PlainRun.{RanPlain, WritesAgain}
use Rattle.plain_run.proofs.PlainRunning.{given_file}
use Rattle.plain_run.proofs.Lengths.{no_longer, same_length, fewer_links}

-- ---- what a file states about its graph

-- the endpoints of the arcs' edges are vertices
ends_of_kept : (n : ℕ) (kept : List Arc) (links : List Link) → All (IsArcOf n) kept → map key_of links ≡ map arc_key kept → EndsUpTo n links
ends_of_kept n kept [] each are i d b = absurd (omega arith)
ends_of_kept n [] (l ∷ links) each are i d b = absurd (cc)
ends_of_kept n (arc ∷ kept) (l ∷ links) each are zero d b =
    let here = All-head (IsArcOf n) arc kept each in
    let key : key_of l ≡ arc_key arc = cc in
    let high : l.high ≡ max arc.tail arc.head = ap (λ k. k.2) key in
    omega (arith, high, here.0.tail_in_range, here.0.head_in_range)
ends_of_kept n (arc ∷ kept) (l ∷ links) each are (suc i) d b =
    let rest : map key_of links ≡ map arc_key kept = cc in
    ends_of_kept n kept links (All-tail (IsArcOf n) arc kept each) rest i d (omega arith)

ends_of_links : (n : ℕ) (arcs : List Arc) (links : List Link) → All (IsArcOf n) arcs → AreLinksOf arcs links → EndsUpTo n links
ends_of_links n arcs links each are = ends_of_kept n (filter is_no_loop arcs) links (All-filter is_no_loop (IsArcOf n) arcs each) are

-- ---- the run

pub writes_again : (report : Report) (before after : Streams) → RanPlain (Ok report) before after → WritesAgain report before after
writes_again report before after ran graph forest has =
    let (arcs, (lines, are_lines, lawful), links) = has.file.means in
    let (ascending, spanning) = has.spanning in
    let from : All (Contains graph.links) forest = (λ i d b. spanning.from_list _ (Contains-get_or forest i d b)) in
    let ends : EndsUpTo graph.vertices graph.links = ends_of_links graph.vertices arcs graph.links (All-from_recursion (IsArcOf graph.vertices) arcs lawful.each) links in
    let its_ends : EndsUpTo graph.vertices forest = (λ i d b. All-contains (λ l. l.high ≤ graph.vertices) graph.links _ ends (from i d b)) in
    let few : length forest ≤ MAX_ARCS = omega (arith, no_longer forest graph.links ascending from, fewer_links arcs graph.links links, lawful.arc_lines) in
    let own = forest_text_means_its_links graph.vertices forest lawful.vertices its_ends few in
    let got : ran.bytes ≡ forest_text graph.vertices forest = given_file (forest_text graph.vertices forest) ran.bytes before.source after.source has.text.known ran.read in
    let means : IsGraphOf (forest_text graph.vertices forest) ran.graph = subst (λ (xs : List ℕ). IsGraphOf xs ran.graph) got ran.file.means in
    let same = forest_text_gives_itself graph.vertices forest lawful.vertices its_ends few ascending spanning.no_cycle ran.graph ran.forest means ran.found_is in
    let said = ran.said.report_is in
    let number = same_length (forest_text graph.vertices forest) ran.graph (record { vertices = graph.vertices; links = forest }) means own in
    record {
      text = subst (λ (m : ℕ). Took 0 (forest_text m forest) before.sink after.sink) same.0
          (subst (λ (ls : List Link). Took 0 (forest_text ran.graph.vertices ls) before.sink after.sink) same.1 ran.written);
      links = ap (λ (r : Report). r.links) said ∙ number;
      total = ap (λ (r : Report). r.total) said ∙ ap (λ (ls : List Link). sum_of_weights ls) same.1;
    }
