-- How the links of a run are split.
use Rattle.std.specs.Prelude.{◌≡◌, ℕ, List, length, Option, None}
use Rattle.links.specs.declared.links.Link.{Link}
use Rattle.links.specs.declared.cuts.CutFault.{CutFault}
use Rattle.links.specs.Cut.{joined, shards_at, IsEvenCut, even_refusal, places_refusal}
use Rattle.forest_run.specs.declared.cutting.Cutting.{Cutting}
use Rattle.forest_run.specs.declared.cutting.Cutting.TheVariants.{Even, At}

-- why a list of this many links can't be split as requested, if it can't
abbrev pub cut_refusal : Cutting → ℕ → Option CutFault
cut_refusal (Even count) links = even_refusal links count
cut_refusal (At places) links = places_refusal links places.now

-- the shards of a list that is split so
abbrev pub IsCutBy : Cutting → List Link → List (List Link) → Type 0
IsCutBy (Even count) links cut = IsEvenCut links count cut
IsCutBy (At places) links cut = cut ≡ shards_at links places.now

-- a list of links, and its shards as requested: joined together they are the list
pub record IsCutOf (cutting : Cutting) (links : List Link) (cut : List (List Link)) : Type 0 where
  pub allowed : cut_refusal cutting (length links) ≡ None
  pub shards : IsCutBy cutting links cut
  pub whole : joined cut ≡ links
