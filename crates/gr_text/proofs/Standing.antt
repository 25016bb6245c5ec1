-- What was read of a text after more of it has come.
use Rattle.std.proofs.Common.{◌≡◌, ℕ, ◌+◌, inl, inr, List, [], ◌∷◌, ◌++◌, ap, sym, ◌∙◌, subst, arith, append_assoc, length, Option, Some, None}
use Rattle.std.proofs.lemmas.List.{length_push}
use Rattle.links.specs.declared.links.Link.{Link}
use Rattle.gr_text.specs.Lines.{IsLine, ended, EndsLines}
use Rattle.gr_text.specs.Graph.{AreLawfulSoFar}
use Rattle.gr_text.specs.Fault.{IsFirstFaulty}
use Rattle.gr_text.specs.LinesSoFar.{LinesSoFarValue, Swap, AreKept, KeepsLinesBut, IsLineFault}
use Rattle.gr_text.specs.PartialLine.{IsKeptAs}
use Rattle.gr_text.specs.Reader.{ReaderValue, Stands, StopsAt}
use Rattle.gr_text.specs.declared.faults.ReadFault.{ReadFault}
use Rattle.gr_text.specs.declared.faults.ReadFault.TheVariants as fault
use Rattle.gr_text.specs.declared.partial_line.PartialLine.{PartialLine}
use Rattle.gr_text.specs.declared.sizes.ProblemSize.{ProblemSize}
use Rattle.gr_text.proofs.Cuts.{EndsLines-bytes, EndsLines-line, EndsLines-more, cut_of}
use Rattle.gr_text.proofs.Faulty.{first_faulty_at}

pub lawful_of : {swap : Swap} (kept : LinesSoFarValue) (lines : List (List ℕ)) → KeepsLinesBut swap kept lines → AreLawfulSoFar lines
lawful_of kept lines (all, by, gives) = search arith

pub first_faulty : (lines : List (List ℕ)) (part : List ℕ) (more : List (List ℕ)) (f : ReadFault) (number : ℕ) → AreLawfulSoFar lines → number ≡ length lines + 1 → IsLineFault f number lines part
    → (text : List ℕ) (r : List ℕ) → EndsLines text (lines ++ part ∷ [] ++ more) r → StopsAt f text
first_faulty lines part more (fault.Gr f) number lawful numbered (line_is, fits) text r cut = (
  lines ++ part ∷ [] ++ more,
  r,
  cut,
  subst (λ (xs : List (List ℕ)). IsFirstFaulty xs f.line f.kind) (sym (append_assoc lines (part ∷ []) more))
      (first_faulty_at lines part more f.line f.kind lawful (line_is ∙ numbered) fits),
)
first_faulty lines part more (fault.Source k) number lawful numbered no_such text r cut = no_such
first_faulty lines part more fault.TooLong number lawful numbered no_such text r cut = no_such
first_faulty lines part more fault.Memory number lawful numbered any text r cut = tt

-- the number of bytes that were fed doesn't matter
pub Stands-fed : {swap : Swap} (r : ReaderValue) (fed : ℕ) (text : List ℕ) → Stands swap r text → Stands swap (record r { fed = fed }) text
Stands-fed r fed text stands = search arith

-- more bytes of a line
pub Stands-part : {swap : Swap} (r : ReaderValue) (partial : PartialLine) (text more : List ℕ) → (stands : Stands swap r text) → IsLine more → IsKeptAs partial (stands.part ++ more)
    → Stands swap (record r { partial = partial }) (text ++ more)
Stands-part r partial text more stands is_line kept = record {
  lines = stands.lines;
  part = stands.part ++ more;
  cut = EndsLines-bytes text stands.lines stands.part more stands.cut is_line;
  give = stands.give;
  kept = kept;
  numbered = stands.numbered;
}

-- the rest of a line with its line feed, if the line is valid
pub Stands-line : {swap : Swap} (r : ReaderValue) (fresh : PartialLine) (so_far : LinesSoFarValue) (text line : List ℕ) → (stands : Stands swap r text) → IsLine line → IsKeptAs fresh []
    → KeepsLinesBut swap so_far (stands.lines ++ (stands.part ++ line) ∷ []) → Stands swap (record r { number = r.number + 1; partial = fresh; so_far = so_far }) (text ++ ended line)
Stands-line r fresh so_far text line stands is_line none gives = record {
  lines = stands.lines ++ (stands.part ++ line) ∷ [];
  part = [];
  cut = EndsLines-line text stands.lines stands.part line stands.cut is_line;
  give = gives;
  kept = none;
  numbered = omega (arith, length_push stands.lines (stands.part ++ line), stands.numbered);
}

-- the same, if the line is invalid; what follows doesn't matter
pub StopsAt-line : {swap : Swap} (e : ReadFault) (r : ReaderValue) (text line rest : List ℕ) → (stands : Stands swap r text) → IsLine line
    → IsLineFault e r.number stands.lines (stands.part ++ line) → StopsAt e ((text ++ ended line) ++ rest)
StopsAt-line e r text line rest stands is_line fault =
    let (more, last, cut) = cut_of rest in
    first_faulty stands.lines (stands.part ++ line) more e r.number (lawful_of r.so_far stands.lines stands.give) stands.numbered fault
    ((text ++ ended line) ++ rest) last (EndsLines-more (text ++ ended line) rest (stands.lines ++ (stands.part ++ line) ∷ []) more [] last
    (EndsLines-line text stands.lines stands.part line stands.cut is_line) cut)

-- a text and a piece, of which a line and what follows it is left
pub piece_line : (text piece done rest line after : List ℕ) → piece ≡ done ++ rest → rest ≡ ended line ++ after → ((text ++ done) ++ ended line) ++ after ≡ text ++ piece
piece_line text piece done rest line after is ends = search (arith, append_assoc)
