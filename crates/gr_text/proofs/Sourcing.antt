-- From what a reader returns to what was read of a source.
use Rattle.std.proofs.Common.{◌≡◌, ℕ, ◌+◌, ◌≤◌, List, [], length, ◌++◌, Some, None, Result, Ok, Err, inl, inr, refl, subst, append-nil, ◌<◌, Bool, true, false, cond, arith}
use Rattle.std.specs.Prelude.{◌==◌, count_by}
use Rattle.byte_streams.specs.Streams.{SourceState, Gave}
use Rattle.byte_streams.proofs.Streaming.{gave_nothing, gave_more}
use Rattle.links.specs.declared.links.Link.{Link}
use Rattle.gr_text.specs.Lines.{line_feed}
use Rattle.gr_text.specs.Graph.{GraphValue, with_links}
use Rattle.gr_text.specs.Fault.{HasLawfulLines}
use Rattle.gr_text.specs.LinesSoFar.{Swap, no_swap}
use Rattle.gr_text.specs.Reader.{ReaderValue, HasRead, HasReadBut, IsRead, IsReadBut, StopsBy}
use Rattle.gr_text.specs.Sourced.{IsReadOf}
use Rattle.gr_text.specs.Kept.{HasKept, HasFollowed, IsKeptReadOf}
use Rattle.gr_text.specs.Following.{IsKeeping, IsNewKeeper}
use Rattle.gr_text.specs.declared.faults.ReadFault.{ReadFault}
use Rattle.gr_text.specs.declared.faults.ReadFault.TheVariants as fault
use Rattle.gr_text.specs.declared.keep.Keep as Keep
use Rattle.gr_text.proofs.Feeding.{lawful_lines, read_on, stopped_by}
use Rattle.gr_text.proofs.Keeping.{kept_none, kept_by, nothing_known}

-- a reader without an error was fed at most its limit, and the lines that have ended are valid
clean : {swap : Swap} (reader : ReaderValue) (text : List ℕ) → HasReadBut swap reader text → reader.fault ≡ None → (length text ≤ reader.limit) × HasLawfulLines text
clean reader text read none = search (arith, read_on, lawful_lines)

-- the source hasn't given anything yet
nothing_kept : (drops : Type 0) (knows : List Link → Type 0) (dropped : ℕ) (reader : ReaderValue) → dropped ≡ 0 → knows [] → HasRead reader [] → HasKept drops knows dropped reader []
nothing_kept drops knows dropped reader none known read = record { swap = no_swap; are = kept_none drops dropped none; known = nothing_known knows known; read = read }

pub nothing_fed : (drops : Type 0) (knows : List Link → Type 0) (dropped : ℕ) (reader : ReaderValue) (s : SourceState)
    → dropped ≡ 0 → knows [] → HasRead reader [] → HasFollowed drops knows dropped 0 reader s s
nothing_fed drops knows dropped reader s none known read = record { text = []; kept = nothing_kept drops knows dropped reader none known read; gave = gave_nothing s }

pub new_reader : {K A : Type 0} (keep : Keep.Ghosts K A) (keeper : K) (reader : ReaderValue)
    → IsNewKeeper keep keeper → reader.fault ≡ None → HasRead reader [] → IsKeeping keep keeper reader
new_reader keep keeper reader new clean read = search (arith, clean, nothing_kept)

-- one more piece was fed
pub fed_kept : {drops : Type 0} {knows : List Link → Type 0} {dropped : ℕ} (old new : ReaderValue) (text piece : List ℕ)
    → ((swap : Swap) (text : List ℕ) → HasReadBut swap old text → HasReadBut swap new (text ++ piece))
    → HasKept drops knows dropped old text → HasKept drops knows dropped new (text ++ piece)
fed_kept old new text piece fed kept = record { swap = kept.swap; are = kept.are; known = kept.known; read = fed kept.swap text kept.read }

-- the source gave one more piece, which was fed
pub piece_fed : {drops : Type 0} {knows : List Link → Type 0} {dropped : ℕ} (old new : ReaderValue) (piece : List ℕ) (s t u : SourceState)
    → ((swap : Swap) (text : List ℕ) → HasReadBut swap old text → HasReadBut swap new (text ++ piece))
    → HasFollowed drops knows dropped 0 old s t → Gave 0 0 piece t u → HasFollowed drops knows dropped 0 new s u
piece_fed old new piece s t u fed so_far more = record {
  text = so_far.text ++ piece;
  kept = fed_kept old new so_far.text piece fed so_far.kept;
  gave = gave_more 0 0 so_far.text piece s t u so_far.gave more;
}

-- the edges were replaced
pub links_kept : {drops : Type 0} {knew knows : List Link → Type 0} {dropped now : ℕ} (old new : ReaderValue) (s t : SourceState)
    → ((text : List ℕ) → HasKept drops knew dropped old text → HasKept drops knows now new text) → HasFollowed drops knew dropped 0 old s t → HasFollowed drops knows now 0 new s t
links_kept old new s t keeps so_far = record { text = so_far.text; kept = keeps so_far.text so_far.kept; gave = so_far.gave }

-- the source ended after what the reader has read
pub ends_behind : {drops : Type 0} {knows : List Link → Type 0} {dropped : ℕ} (reader : ReaderValue) (s t u : SourceState)
    → HasFollowed drops knows dropped 0 reader s t → Gave 0 1 [] t u → HasFollowed drops knows dropped 1 reader s u
ends_behind reader s t u so_far ended = search (arith, append-nil, gave_more)

pub read_to_end : {drops : Type 0} {knows : List Link → Type 0} {dropped : ℕ} (limit : ℕ) (outcome : Result GraphValue ReadFault) (reader : ReaderValue) (s u : SourceState)
    → HasFollowed drops knows dropped 1 reader s u
    → reader.fault ≡ None → reader.limit ≡ limit → ((swap : Swap) (text : List ℕ) → HasReadBut swap reader text → IsReadBut swap reader.limit text outcome)
    → IsKeptReadOf drops limit dropped outcome s u
read_to_end {drops} {knows} {dropped} limit outcome reader s u ended none is answers = at outcome (answers kept.swap ended.text kept.read)
  where
    kept : HasKept drops knows dropped reader ended.text
    kept = ended.kept

    whole : (result : Result GraphValue ReadFault) → IsRead reader.limit ended.text result → IsReadOf limit result s u
    whole result read = inl (record {
      bytes = ended.text;
      gave = ended.gave;
      within = subst (λ k. length ended.text ≤ k) is (clean reader ended.text kept.read none).0;
      read = subst (λ k. IsRead k ended.text result) is read;
    })

    at : (result : Result GraphValue ReadFault) → IsReadBut kept.swap reader.limit ended.text result → IsKeptReadOf drops limit dropped result s u
    at (Ok graph) (all, by, read) = (all, kept_by all graph.links kept.are by, whole (Ok (with_links all graph)) read)
    at (Err e) fails = whole (Err e) fails

-- if `enough` bytes were read or the end was found, and the limit is below `enough`, the end was found
pub read_whole : {drops : Type 0} {knows : List Link → Type 0} {dropped : ℕ} (ended : Bool) (limit enough : ℕ) (outcome : Result GraphValue ReadFault) (reader : ReaderValue) (s u : SourceState)
    → HasFollowed drops knows dropped (cond ended 1 0) reader s u → (ended ≡ false → enough ≤ reader.limit) → limit < enough
    → reader.fault ≡ None → reader.limit ≡ limit → ((swap : Swap) (text : List ℕ) → HasReadBut swap reader text → IsReadBut swap reader.limit text outcome)
    → IsKeptReadOf drops limit dropped outcome s u
read_whole true limit enough outcome reader s u so_far few short none is answers = read_to_end limit outcome reader s u so_far none is answers
read_whole false limit enough outcome reader s u so_far few short none is answers = absurd (omega (arith, few refl, short, is))

-- a read failed after what the reader has read
pub breaks_off : {drops : Type 0} {knows : List Link → Type 0} {dropped : ℕ} (limit line : ℕ) (reader : ReaderValue) (s t u : SourceState)
    → HasFollowed drops knows dropped 0 reader s t → reader.fault ≡ None → reader.limit ≡ limit
    → ((swap : Swap) (text : List ℕ) → HasReadBut swap reader text → line ≡ 1 + count_by (λ b. b == line_feed) text) → Gave 1 0 [] t u → IsReadOf limit (Err (fault.Source line)) s u
breaks_off limit line reader s t u so_far none is next failed = inr (inr (
  line,
  refl,
  record {
    bytes = so_far.text;
    gave = subst (λ bytes. Gave 1 0 bytes s u) (append-nil so_far.text) (gave_more 1 0 so_far.text [] s t u so_far.gave failed);
    within = subst (λ k. length so_far.text ≤ k) is (clean reader so_far.text so_far.kept.read none).0;
    lawful = (clean reader so_far.text so_far.kept.read none).1;
    next = next so_far.kept.swap so_far.text so_far.kept.read;
  },
))

-- there is an error in what the reader was fed
pub read_up_to : {drops : Type 0} {knows : List Link → Type 0} {dropped : ℕ} (limit : ℕ) (why : ReadFault) (reader : ReaderValue) (s u : SourceState) → HasFollowed drops knows dropped 0 reader s u
    → reader.fault ≡ Some why → reader.limit ≡ limit → IsReadOf limit (Err why) s u
read_up_to limit why reader s u so_far is at = search (arith, stopped_by)

-- there was no memory after what the reader was fed
pub memory_lacks : {drops : Type 0} {knows : List Link → Type 0} {dropped : ℕ} (limit : ℕ) (reader : ReaderValue) (s u : SourceState)
    → HasFollowed drops knows dropped 0 reader s u → IsReadOf limit (Err fault.Memory) s u
memory_lacks limit reader s u so_far = inr (inl (record { bytes = so_far.text; gave = so_far.gave; stops = tt }))
