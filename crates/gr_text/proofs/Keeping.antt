-- Edges that are kept of all that were read, when more come and when they are replaced.
use Rattle.std.proofs.Common.{◌≡◌, ℕ, ◌+◌, ◌≤◌, [], ◌++◌, List, refl, ap, sym, ◌∙◌, subst, arith, append-nil, append_assoc, length, length-append, Option, Some, None, Result, Ok, Err}
use Rattle.std.specs.Prelude.{OnOk}
use Rattle.byte_streams.specs.Streams.{SourceState}
use Rattle.links.specs.Covers.{IsCoveredBy}
use Rattle.links.specs.declared.links.Link.{Link}
use Rattle.links.proofs.Covers.{same_links_cover, cover_of_cover, covers_together}
use Rattle.gr_text.specs.Graph.{GraphValue, with_links}
use Rattle.gr_text.specs.LinesSoFar.{LinesSoFarValue, Swap, DifferBy, AreKept}
use Rattle.gr_text.specs.Reader.{ReaderValue}
use Rattle.gr_text.specs.Sourced.{IsReadOf}
use Rattle.gr_text.specs.Kept.{AreKeptOf, BeginsSo, IsKeptReadOf, KeepsOn, HasKept}
use Rattle.gr_text.specs.declared.faults.ReadFault.{ReadFault}
use Rattle.gr_text.specs.declared.sizes.ProblemSize.{ProblemSize}
use Rattle.gr_text.proofs.ArcLineParts.{links_few}
use Rattle.gr_text.proofs.Feeding.{read_on}
use Rattle.gr_text.proofs.Pieces.{has_read_on}

pub covered_by_itself : (links : List Link) → IsCoveredBy links links
covered_by_itself links = same_links_cover links links (λ l. (λ here. here, λ here. here))

-- nothing was read
pub kept_none : (drops : Type 0) (dropped : ℕ) → dropped ≡ 0 → AreKeptOf drops dropped [] []
kept_none drops dropped none = record { cover = covered_by_itself []; counted = omega (arith, none); whole = λ all. refl }

-- nothing is kept, and that is known
pub nothing_known : (knows : List Link → Type 0) → knows [] → BeginsSo knows []
nothing_known knows known = record { first = []; more = []; are = refl; known = known }

-- what is known stays true when more edges come
begins_with : {knows : List Link → Type 0} (links more : List Link) → BeginsSo knows links → BeginsSo knows (links ++ more)
begins_with links more begins = search (arith, append_assoc)

known_by : {knows : List Link → Type 0} {swap : Swap} (all links : List Link) → BeginsSo knows swap.put → DifferBy swap all links → BeginsSo knows links
known_by {knows} {swap} all links known by = subst (λ (xs : List Link). BeginsSo knows xs) (sym by.links_are) (begins_with swap.put by.more known)

-- the same edges are added to both
kept_with : {drops : Type 0} {dropped : ℕ} (all kept more : List Link) → AreKeptOf drops dropped all kept → AreKeptOf drops dropped (all ++ more) (kept ++ more)
kept_with all kept more are = record {
  cover = covers_together all more kept more are.cover (covered_by_itself more);
  counted = omega (arith, are.counted, length-append all more, length-append kept more);
  whole = λ none. ap (λ (xs : List Link). xs ++ more) (are.whole none);
}

-- a swap of edges for some that are kept of them is the whole difference between those read and those kept
pub kept_by : {drops : Type 0} {dropped : ℕ} {swap : Swap} (all links : List Link) → AreKeptOf drops dropped swap.gone swap.put → DifferBy swap all links → AreKeptOf drops dropped all links
kept_by {drops} {dropped} {swap} all links are by =
    subst (λ (xs : List Link). AreKeptOf drops dropped xs links) (sym by.all_are)
    (subst (λ (xs : List Link). AreKeptOf drops dropped (swap.gone ++ by.more) xs) (sym by.links_are) (kept_with swap.gone swap.put by.more are))

-- kept edges are replaced
pub kept_again : {drops : Type 0} {dropped now : ℕ} (all old new : List Link) → IsCoveredBy old new → dropped + length old ≡ now + length new → (¬ drops → new ≡ old)
    → AreKeptOf drops dropped all old → AreKeptOf drops now all new
kept_again all old new cover counted whole are = record {
  cover = cover_of_cover all old new are.cover cover;
  counted = are.counted ∙ counted;
  whole = λ none. whole none ∙ are.whole none;
}

few_of : {drops : Type 0} {dropped : ℕ} (size : Option ProblemSize) (count : ℕ) (all links : List Link) (lines : List (List ℕ)) → AreKeptOf drops dropped all links → AreKept size count all lines
    → dropped + length links ≤ count
few_of a1 a2 a3 a4 a5 a6 a7 = search (arith, links_few)

-- together, the dropped and the kept edges are at most as many as the arcs
pub kept_few : {drops : Type 0} {knows : List Link → Type 0} {dropped : ℕ} (reader : ReaderValue) (text : List ℕ) → reader.fault ≡ None → HasKept drops knows dropped reader text
    → dropped + length reader.so_far.links ≤ reader.so_far.count
kept_few reader text none kept =
    let (short, counted, stands) = read_on reader text none kept.read in
    let (all, by, gives) = stands.give in
    few_of reader.so_far.size reader.so_far.count all reader.so_far.links stands.lines (kept_by all reader.so_far.links kept.are by) gives

-- what is known about those that are kept
pub kept_known : {drops : Type 0} {knows : List Link → Type 0} {dropped : ℕ} (reader : ReaderValue) (text : List ℕ) → reader.fault ≡ None → HasKept drops knows dropped reader text
    → BeginsSo knows reader.so_far.links
kept_known reader text none kept =
    let (short, counted, stands) = read_on reader text none kept.read in
    let (all, by, gives) = stands.give in
    known_by all reader.so_far.links kept.known by

-- what a reader was fed stays the same when its edges are replaced
pub kept_on : {drops : Type 0} {knew knows : List Link → Type 0} {dropped now : ℕ} (old : ReaderValue) (so_far : LinesSoFarValue) (text : List ℕ) → old.fault ≡ None
    → KeepsOn drops knows dropped now old.so_far so_far → HasKept drops knew dropped old text → HasKept drops knows now (record old { so_far = so_far }) text
kept_on old so_far text none keeps kept =
    let (short, counted, stands) = read_on old text none kept.read in
    let (all, by, gives) = stands.give in
    let same = subst (λ (s : Option ProblemSize). AreKept s old.so_far.count all stands.lines) (sym keeps.size) gives in
    record {
      swap = record { gone = all; put = so_far.links };
      are = keeps.kept all (kept_by all old.so_far.links kept.are by);
      known = keeps.known;
      read = has_read_on _ text none short counted (record {
        lines = stands.lines;
        part = stands.part;
        cut = stands.cut;
        give = (
          all,
          record { more = []; all_are = sym (append-nil all); links_are = sym (append-nil so_far.links) },
          subst (λ (n : ℕ). AreKept so_far.size n all stands.lines) (sym keeps.count) same,
        );
        kept = stands.kept;
        numbered = stands.numbered;
      });
    }

-- the same for a keeper that may have failed
pub kept_ok : {X E : Type 0} (drops : Type 0) (knew knows : List Link → Type 0) (dropped now : ℕ) (r : Result X E) (was old : ReaderValue) (so_far : LinesSoFarValue) → was ≡ old → old.fault ≡ None
    → OnOk r (KeepsOn drops knows dropped now was.so_far so_far)
    → OnOk r ((text : List ℕ) → HasKept drops knew dropped old text → HasKept drops knows now (record was { so_far = so_far }) text)
kept_ok a1 a2 a3 a4 a5 a6 a7 a8 a9 a10 a11 a12 = search (arith, kept_on)

-- a keeper that drops none keeps all
pub keeps_all : (limit dropped : ℕ) (result : Result GraphValue ReadFault) (before after : SourceState) → IsKeptReadOf ⊥ limit dropped result before after → IsReadOf limit result before after
keeps_all a1 a2 a3 a4 a5 a6 = search arith
