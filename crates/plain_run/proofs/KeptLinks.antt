-- What holds for edges that are kept of all that were read.
use Rattle.std.proofs.Common.{◌+◌, ◌≤◌, ℕ, List, length, Ok, arith}
use Rattle.std.proofs.lemmas.List.Elements.{All-contains, Contains-get_or}
use Rattle.limits.specs.declared.TheConstants.{MAX_ARCS, MAX_BYTES}
use Rattle.byte_streams.specs.Streams.{SourceState}
use Rattle.links.specs.Covers.{IsCoveredBy}
use Rattle.links.specs.Forest.{IsForestOf}
use Rattle.links.specs.Link.{EndsUpTo}
use Rattle.links.specs.declared.links.Link.{Link}
use Rattle.links.proofs.Covers.{same_links_cover, cover_has_forest}
use Rattle.gr_text.specs.Graph.{GraphValue, with_links}
use Rattle.gr_text.specs.Kept.{AreKeptOf, IsKeptReadOf}
use Rattle.plain_run.proofs.Lengths.{fewer_links}
use Rattle.plain_run.proofs.PlainRunning.{whole_file}

pub covers_itself : (links : List Link) → IsCoveredBy links links
covers_itself links = same_links_cover links links (λ l. (λ here. here, λ here. here))

-- edges that cover a list are edges of it, so their endpoints are vertices
pub ends_of_cover : (n : ℕ) (links kept : List Link) → EndsUpTo n links → IsCoveredBy links kept → EndsUpTo n kept
ends_of_cover n links kept ends cover i d b = All-contains (λ (l : Link). l.high ≤ n) links _ ends (cover.among _ (Contains-get_or kept i d b))

-- a file has at most 2^30 arc lines, whose edges were dropped or are kept
pub few_read : (drops : Type 0) (dropped : ℕ) (graph : GraphValue) (s t : SourceState) → IsKeptReadOf drops MAX_BYTES dropped (Ok graph) s t → dropped + length graph.links ≤ MAX_ARCS
few_read drops dropped graph s t (all, kept, read) = search (arith, whole_file, fewer_links)

-- the forest of the kept edges is that of all edges that were read
pub forest_of_all : (drops : Type 0) (dropped : ℕ) (all kept forest : List Link) → AreKeptOf drops dropped all kept → IsForestOf kept forest → IsForestOf all forest
forest_of_all drops dropped all kept forest are is = cover_has_forest all kept forest are.cover is
