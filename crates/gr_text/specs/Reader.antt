-- What a reader has read, and what it returns.
use Rattle.std.specs.Prelude.{◌≡◌, ℕ, ◌+◌, ◌<◌, ◌≤◌, ◌⊎◌, List, ◌++◌, length, take, Option, None, Some, MatchOption, Result, Ok, Err, OnOk, MatchResult}
use Rattle.links.specs.declared.links.Link.{Link}
use Rattle.gr_text.specs.Lines.{EndsLines}
use Rattle.gr_text.specs.Graph.{GraphValue, with_links, IsGraphOf}
use Rattle.gr_text.specs.Fault.{IsFirstFault, IsEndedFault, HasLawfulLines}
use Rattle.gr_text.specs.LinesSoFar.{LinesSoFarValue, Swap, no_swap, DifferBy, KeepsLinesBut}
use Rattle.gr_text.specs.PartialLine.{IsKeptAs}
use Rattle.gr_text.specs.declared.faults.ReadFault.{ReadFault}
use Rattle.gr_text.specs.declared.faults.ReadFault.TheVariants as fault
use Rattle.gr_text.specs.declared.partial_line.PartialLine.{PartialLine}

-- what a reader stores: of the lines, the number and the part of the current one, and what those before it describe
pub record ReaderValue : Type 0 where
  pub limit : ℕ
  pub fed : ℕ
  pub number : ℕ
  pub partial : PartialLine
  pub so_far : LinesSoFarValue
  pub fault : Option ReadFault

-- The text consists of whole lines, of which the reader stores `so_far` except for a swap of edges, and then a part of
-- the current line, stored as `partial`.
pub record Stands (swap : Swap) (reader : ReaderValue) (text : List ℕ) : Type 0 where
  pub lines : List (List ℕ)
  pub part : List ℕ
  pub cut : EndsLines text lines part
  pub give : KeepsLinesBut swap reader.so_far lines
  pub kept : IsKeptAs reader.partial part
  pub numbered : reader.number ≡ length lines + 1

-- why a text isn't read further: the first invalid line among those that a line feed ends, or out of memory
abbrev pub StopsAt : ReadFault → List ℕ → Type 0
StopsAt (fault.Gr f) text = IsEndedFault text f.line f.kind
StopsAt (fault.Source number) text = ⊥
StopsAt fault.TooLong text = ⊥
StopsAt fault.Memory text = Unit {0}

-- a piece was read after any text that the reader had read, or the longer text isn't read further for this reason
abbrev pub ReadsPiece : {X : Type 0} → Result X ReadFault → List ℕ → ReaderValue → ReaderValue → Type 0
ReadsPiece result piece old new =
    (swap : Swap) (text : List ℕ) → Stands swap old text
    → MatchResult result (λ _. Stands swap new (text ++ piece)) (λ e. StopsAt e (text ++ piece))

-- Why a text isn't read further if at most `limit` bytes may be read. It is the first invalid line among those that a
-- line feed ends, or else that the text is too long; or there was no memory.
abbrev pub StopsBy : ReadFault → ℕ → List ℕ → Type 0
StopsBy (fault.Gr f) limit text = IsEndedFault (take limit text) f.line f.kind
StopsBy (fault.Source number) limit text = ⊥
StopsBy fault.TooLong limit text = (limit < length text) × HasLawfulLines (take limit text)
StopsBy fault.Memory limit text = Unit {0}

-- Why a whole text has no graph. Within the limit it is the text's first error. Past the limit it is the first invalid
-- line among those that a line feed ends within it, or else that the text is too long. It may also be out of memory.
abbrev pub FailsBy : ReadFault → ℕ → List ℕ → Type 0
FailsBy (fault.Gr f) limit text =
    ((length text ≤ limit) × IsFirstFault text f.line f.kind) ⊎ ((limit < length text) × IsEndedFault (take limit text) f.line f.kind)
FailsBy (fault.Source number) limit text = ⊥
FailsBy fault.TooLong limit text = (limit < length text) × HasLawfulLines (take limit text)
FailsBy fault.Memory limit text = Unit {0}

-- The reader was fed this text, in whatever pieces, while edges were swapped. Either it has an error, which is right,
-- or it has read all of the text.
pub record HasReadBut (swap : Swap) (reader : ReaderValue) (text : List ℕ) : Type 0 where
  pub outcome : MatchOption reader.fault
      ((length text ≤ reader.limit) × (length text ≡ reader.fed) × Stands swap reader text)
      (λ f. StopsBy f reader.limit text)

abbrev pub HasRead : ReaderValue → List ℕ → Type 0
HasRead reader text = HasReadBut no_swap reader text

-- a reader was fed this piece, with this result
pub record IsFed {X : Type 0} (result : Result X ReadFault) (piece : List ℕ) (old new : ReaderValue) : Type 0 where
  pub limit : new.limit ≡ old.limit
  pub within : new.fed ≤ new.limit
  pub grows : OnOk result (new.fed ≡ old.fed + length piece)
  pub fed : (swap : Swap) (text : List ℕ) → HasReadBut swap old text → HasReadBut swap new (text ++ piece)
  pub fault : MatchResult result (λ _. new.fault ≡ None) (λ e. new.fault ≡ Some e)

-- a reader was fed this piece without an error
abbrev pub TakesPiece : List ℕ → ReaderValue → ReaderValue → Type 0
TakesPiece piece old new = IsFed {X = Unit {0}} (Ok (tt {0})) piece old new

-- the result of reading a whole text: the graph that it describes, if it is within the limit, or why there is none
abbrev pub IsRead : ℕ → List ℕ → Result GraphValue ReadFault → Type 0
IsRead limit text (Ok graph) = (length text ≤ limit) × IsGraphOf text graph
IsRead limit text (Err e) = FailsBy e limit text

-- the same, except for a swap of edges
abbrev pub IsReadBut : Swap → ℕ → List ℕ → Result GraphValue ReadFault → Type 0
IsReadBut swap limit text (Ok graph) = (all : List Link) × DifferBy swap all graph.links × IsRead limit text (Ok (with_links all graph))
IsReadBut swap limit text (Err e) = FailsBy e limit text
