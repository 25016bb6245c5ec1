-- A reader that follows a source, together with a keeper of its edges.
use Rattle.std.specs.Prelude.{◌≡◌, ℕ, List, [], Bool, cond, None, Result, Err, MatchResult}
use Rattle.byte_streams.specs.Streams.{SourceState}
use Rattle.gr_text.specs.Graph.{GraphValue}
use Rattle.gr_text.specs.Kept.{HasKept, HasFollowed, IsKeptReadOf}
use Rattle.gr_text.specs.Reader.{ReaderValue}
use Rattle.gr_text.specs.Sourced.{IsReadOf}
use Rattle.gr_text.specs.declared.faults.ReadFault.{ReadFault}
use Rattle.gr_text.specs.declared.keep.Keep as Keep

-- a keeper that may be called, has dropped no edge and knows of none
pub record IsNewKeeper {K A : Type 0} (keep : Keep.Ghosts K A) (keeper : K) : Type 0 where
  pub ready : keep.ready
  pub none : keep.dropped keeper ≡ 0
  pub nothing : keep.knows keeper []

-- a reader without an error, which was fed some text, and a keeper that kept such edges of it and may be called again
pub record IsKeeping {K A : Type 0} (keep : Keep.Ghosts K A) (keeper : K) (reader : ReaderValue) : Type 0 where
  pub ready : keep.ready
  pub clean : reader.fault ≡ None
  pub kept : (text : List ℕ) × HasKept keep.drops (keep.knows keeper) (keep.dropped keeper) reader text

-- any text that the reader was fed before the keeper was called, it was fed afterwards
abbrev pub KeepsText : {K A : Type 0} → Keep.Ghosts K A → K → K → ReaderValue → ReaderValue → Type 0
KeepsText keep keeper keeper' old new =
    (text : List ℕ) → HasKept keep.drops (keep.knows keeper) (keep.dropped keeper) old text
    → HasKept keep.drops (keep.knows keeper') (keep.dropped keeper') new text

-- a reader was fed exactly what the source gave from `before` on, and the source reached its end `ended` times
abbrev pub Follows : {K A : Type 0} → Keep.Ghosts K A → K → ℕ → ReaderValue → SourceState → SourceState → Type 0
Follows keep keeper ended reader before after = HasFollowed keep.drops (keep.knows keeper) (keep.dropped keeper) ended reader before after

-- from wherever the reader had followed the source, it followed it further, to its end if `ended`; or it read up to
-- this error
abbrev pub FollowsOn : {K A : Type 0} → Keep.Ghosts K A → Result Bool ReadFault → K → ReaderValue → SourceState → K → ReaderValue → SourceState → Type 0
FollowsOn keep result keeper reader here keeper' reader' there =
    (before : SourceState) → Follows keep keeper 0 reader before here
    → MatchResult result (λ ended. Follows keep keeper' (cond ended 1 0) reader' before there) (λ why. IsReadOf reader.limit (Err why) before there)

-- from wherever the reader had followed the source, this is what was read of it from there, with the edges that the
-- keeper kept
abbrev pub ReadsRest : {K A : Type 0} → Keep.Ghosts K A → Result GraphValue ReadFault → K → ReaderValue → SourceState → K → SourceState → Type 0
ReadsRest keep result keeper reader here keeper' there =
    (before : SourceState) → Follows keep keeper 0 reader before here
    → IsKeptReadOf keep.drops reader.limit (keep.dropped keeper') result before there
