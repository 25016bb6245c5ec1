-- Cuts of a list of links into shards.
use Rattle.std.specs.Prelude.{◌≡◌, ℕ, ◌+◌, ◌-◌, ◌*◌, ◌/◌, ◌<◌, ◌≤◌, ◌↔◌, ◌==◌, nat_lt, nat_le, if◌then◌else◌, Bool, List, [], ◌∷◌, ◌++◌, length, map, zip, flat_map, slice_range, slice_index_or, Option, Some, None}
use Rattle.std.specs.List.{list_all}
use Rattle.limits.specs.declared.TheConstants.{MAX_SHARDS, MAX_SHARD_LINKS}
use Rattle.links.specs.declared.links.Link.{Link}
use Rattle.links.specs.declared.cuts.CutFault.{CutFault}
use Rattle.links.specs.declared.cuts.CutFault.TheVariants.{NoShards, TooManyShards, ShardTooLarge, BadPlaces, Memory}

-- the links of the shards, one shard after the other
abbrev pub joined : List (List Link) → List Link
joined shards = flat_map (λ s. s) shards

-- the links of a shard
abbrev pub links_at : List (List Link) → ℕ → List Link
links_at shards number = slice_index_or shards number []

-- where the shards of a list of length `len` begin and end, from `from` on: each shard ends where the next one begins
abbrev pub spans_from : ℕ → ℕ → List ℕ → List (ℕ × ℕ)
spans_from from len places = zip (from ∷ places) (places ++ len ∷ [])

-- the list's links from a span's beginning up to its end
abbrev pub links_in : List Link → (ℕ × ℕ) → List Link
links_in links span = slice_range links span.0 span.1

-- the shards of a list that is cut at the given indices
abbrev pub shards_at : List Link → List ℕ → List (List Link)
shards_at links places = map (links_in links) (spans_from 0 (length links) places)

-- shard i of L links has the indices from floor(i L / count) up to floor((i + 1) L / count)
pub record IsEvenCut (links : List Link) (count : ℕ) (shards : List (List Link)) : Type 0 where
  pub number : length shards ≡ count
  pub each : (i : ℕ) → i < count → links_at shards i ≡ slice_range links (i * length links / count) ((i + 1) * length links / count)

-- the shard doesn't end before it begins
abbrev pub is_in_order : (ℕ × ℕ) → Bool
is_in_order span = nat_le span.0 span.1

-- the shard isn't too large
abbrev pub is_small : (ℕ × ℕ) → Bool
is_small span = nat_le (span.1 - span.0) MAX_SHARD_LINKS

-- why a list of length `len` can't be cut into `count` even shards: if the shards can't hold all links, one is too
-- large
abbrev pub even_refusal : ℕ → ℕ → Option CutFault
even_refusal len count =
    if count == 0 then Some NoShards
    else (if nat_lt MAX_SHARDS count then Some TooManyShards
    else (if nat_lt (MAX_SHARD_LINKS * count) len then Some ShardTooLarge
    else None))

-- why a list of length `len` can't be cut at the given indices: there is one shard more than indices
abbrev pub places_refusal : ℕ → List ℕ → Option CutFault
places_refusal len places =
    if nat_le MAX_SHARDS (length places) then Some TooManyShards
    else (if list_all is_in_order (spans_from 0 len places) then (if list_all is_small (spans_from 0 len places) then None else Some ShardTooLarge)
    else Some BadPlaces)

-- the error of a call that makes a cut: the cause if the cut isn't allowed, otherwise out of memory
abbrev pub IsCutFault : Option CutFault → CutFault → Type 0
IsCutFault None fault = fault ≡ Memory
IsCutFault (Some refusal) fault = fault ≡ refusal

-- how many links shard i of an even cut of `len` links has
abbrev pub even_size : ℕ → ℕ → ℕ → ℕ
even_size len count i = (i + 1) * len / count - i * len / count

-- some shard of an even cut has more links than a shard may have
abbrev pub HasLargeShard : ℕ → ℕ → Type 0
HasLargeShard len count = (i : ℕ) × (i < count) × (MAX_SHARD_LINKS < even_size len count i)

-- an even cut into an allowed number of shards is rejected exactly if one of its shards is too large
abbrev pub RefusedForALargeShard : Type 0
RefusedForALargeShard =
    (len count : ℕ) → 1 ≤ count → count ≤ MAX_SHARDS → (even_refusal len count ≡ Some ShardTooLarge) ↔ HasLargeShard len count
