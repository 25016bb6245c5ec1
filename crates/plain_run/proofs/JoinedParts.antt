-- What is stored of several files, and the forest of all their edges.
use Rattle.std.proofs.Common.{◌≡◌, ◌+◌, ◌≤◌, ◌^◌, ℕ, zero, suc, List, [], ◌∷◌, ◌++◌, length, ◌⊎◌, inl, inr, sym, ap, subst, ◌∙◌, arith}
use Rattle.std.specs.Prelude.{All}
use Rattle.std.proofs.lemmas.List.{flat_map_more, length-append}
use Rattle.std.proofs.lemmas.List.Elements.{All-append}
use Rattle.byte_streams.specs.Streams.{SinkState, Took}
use Rattle.links.specs.Covers.{IsCoveredBy}
use Rattle.links.specs.Forest.{IsForestOf}
use Rattle.links.specs.Least.{sum_of_weights}
use Rattle.links.specs.Link.{EndsUpTo}
use Rattle.links.specs.declared.links.Link.{Link}
use Rattle.links.proofs.Covers.{cover_has_forest, cover_of_cover, covers_together}
use Rattle.links.proofs.Least.{lightest_forest}
use Rattle.gr_text.specs.ForestText.{forest_text}
use Rattle.gr_text.specs.Graph.{GraphValue}
use Rattle.gr_text.specs.Written.{PrefixWentOut}
use Rattle.gr_text.proofs.ForestSize.{few_are_exact}
use Rattle.plain_run.specs.Parts.{PartsValue, ArePartsOf, IsWrittenForest, IsPartOfForest, links_of_all, joined_graph}
use Rattle.plain_run.specs.PlainRun.{counted_report}
use Rattle.plain_run.specs.declared.report.Report.{Report}
use Rattle.plain_run.proofs.PlainRunning.{plainly}

-- an empty list has no endpoint that isn't a vertex
pub none_ends : (n : ℕ) (links : List Link) → length links ≡ 0 → EndsUpTo n links
none_ends n links none = λ i d b. absurd (omega arith)

-- the edges of one more graph come last
all_more : (graphs : List GraphValue) (graph : GraphValue) → links_of_all (graphs ++ graph ∷ []) ≡ links_of_all graphs ++ graph.links
all_more graphs graph = sym (flat_map_more (λ (g : GraphValue). g.links) [] graphs graph)

-- all graphs have the number of vertices of one more, if there are none or it has theirs
one_number_more : (graphs : List GraphValue) (graph : GraphValue) (vertices n files : ℕ) → All (λ (g : GraphValue). g.vertices ≡ vertices) graphs
    → files ≡ length graphs → graph.vertices ≡ n → (files ≡ 0) ⊎ (n ≡ vertices) → All (λ (g : GraphValue). g.vertices ≡ n) (graphs ++ graph ∷ [])
one_number_more graphs graph vertices n files one as_many same either =
    All-append (λ (g : GraphValue). g.vertices ≡ n) graphs (graph ∷ []) (before either) (last)
  where
    last : All (λ (g : GraphValue). g.vertices ≡ n) (graph ∷ [])
    last zero d b = same
    last (suc i) d b = absurd (omega arith)

    before : (files ≡ 0) ⊎ (n ≡ vertices) → All (λ (g : GraphValue). g.vertices ≡ n) graphs
    before (inl none) = λ i d b. absurd (omega arith)
    before (inr is) = λ i d b. one i d b ∙ sym is

-- One more graph: some of its edges were dropped, the others were added to the kept ones, and these were replaced by
-- fewer.
pub with_one_more : (graphs : List GraphValue) (graph : GraphValue) (old new : PartsValue) (links : List Link) (dropped : ℕ)
    → IsCoveredBy graph.links links → length graph.links ≡ dropped + length links → IsCoveredBy (old.kept ++ links) new.kept
    → graph.vertices ≡ new.vertices → (old.files ≡ 0) ⊎ (new.vertices ≡ old.vertices)
    → new.count ≡ old.count + (dropped + length links) → new.files ≡ old.files + 1 → ArePartsOf graphs old → ArePartsOf (graphs ++ graph ∷ []) new
with_one_more graphs graph old new links dropped cover counted fewer same either count files are =
    let both = covers_together (links_of_all graphs) graph.links old.kept links are.cover cover in
    let whole = cover_of_cover (links_of_all graphs ++ graph.links) (old.kept ++ links) new.kept both fewer in
    let more = all_more graphs graph in
    let long : length (links_of_all (graphs ++ graph ∷ [])) ≡ length (links_of_all graphs) + length graph.links =
    ap length more ∙ length-append (links_of_all graphs) graph.links in
    record {
      one_number = one_number_more graphs graph old.vertices new.vertices old.files are.one_number are.files same either;
      cover = subst (λ (ls : List Link). IsCoveredBy ls new.kept) (sym more) whole;
      counted = omega (arith, long, count, counted, are.counted);
      files = omega (arith, files, are.files, length-append graphs (graph ∷ []));
    }

-- ---- the forest of all

-- the forest of the kept edges is that of all edges
pub forest_of_parts : (graphs : List GraphValue) (parts : PartsValue) (forest : List Link) → ArePartsOf graphs parts → IsForestOf parts.kept forest
    → IsForestOf (links_of_all graphs) forest
forest_of_parts graphs parts forest are is = cover_has_forest (links_of_all graphs) parts.kept forest are.cover is

pub wrote_forest : (graphs : List GraphValue) (parts : PartsValue) (forest : List Link) (report : Report) (a b : SinkState)
    → IsForestOf parts.kept forest → Took 0 (forest_text parts.vertices forest) a b → report ≡ counted_report parts.vertices parts.count (sum_of_weights forest)
    → ArePartsOf graphs parts → IsWrittenForest (joined_graph parts.vertices graphs) report a b
wrote_forest graphs parts forest report a b is took said are =
    let least = forest_of_parts graphs parts forest are is in
    record {
      forest = forest;
      least = least;
      text = took;
      said = plainly (joined_graph parts.vertices graphs) forest report (lightest_forest (links_of_all graphs) forest least)
          (said ∙ ap (λ (m : ℕ). counted_report parts.vertices m (sum_of_weights forest)) are.counted);
    }

pub wrote_part : (graphs : List GraphValue) (parts : PartsValue) (forest : List Link) (written : ℕ) (a b : SinkState)
    → IsForestOf parts.kept forest → length forest ≤ 2 ^ 55 → PrefixWentOut written (forest_text parts.vertices forest) a b
    → ArePartsOf graphs parts → IsPartOfForest (joined_graph parts.vertices graphs) written a b
wrote_part graphs parts forest written a b is few part are =
    record { forest = forest; least = forest_of_parts graphs parts forest are is; part = few_are_exact written parts.vertices forest a b few part }
