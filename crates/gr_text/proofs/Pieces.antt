-- A reader that takes whole lines at once, and a piece that is fed in parts.
use Rattle.std.proofs.Common.{◌≡◌, ℕ, ◌+◌, ◌≤◌, List, [], ◌++◌, refl, sym, ◌∙◌, subst, arith, append_assoc, length, length-append, Option, None, false, Result, Ok, Err}
use Rattle.std.specs.Prelude.{OnOk, MatchOption}
use Rattle.gr_text.specs.Lines.{EndsLines}
use Rattle.gr_text.specs.LinesSoFar.{LinesSoFarValue, Swap, AddsLines}
use Rattle.gr_text.specs.PartialLine.{IsKeptAs}
use Rattle.gr_text.specs.Reader.{ReaderValue, Stands, StopsBy, HasReadBut, IsFed, TakesPiece}
use Rattle.gr_text.specs.declared.faults.ReadFault.{ReadFault}
use Rattle.gr_text.proofs.Cuts.{EndsLines-more}
use Rattle.gr_text.proofs.Parts.{not_begun}
use Rattle.gr_text.proofs.Feeding.{HasRead-fault, read_on}

-- whole lines, if no part of a line has come
pub Stands-lines : {swap : Swap} (r : ReaderValue) (so_far : LinesSoFarValue) (fed count : ℕ) (text piece : List ℕ)
    → Stands swap r text → r.partial.begun ≡ false → AddsLines count piece r.so_far so_far
    → Stands swap (record r { fed = fed; number = r.number + count; so_far = so_far }) (text ++ piece)
Stands-lines {swap} r so_far fed count text piece stands fresh adds =
    let none : stands.part ≡ [] = not_begun stands.part (sym stands.kept.0 ∙ fresh) in
    record {
      lines = stands.lines ++ adds.lines;
      part = [];
      cut = EndsLines-more text piece stands.lines adds.lines stands.part [] stands.cut
          (subst (λ (xs : List ℕ). EndsLines (xs ++ piece) adds.lines []) (sym none) adds.cut);
      give = adds.gives swap stands.lines stands.give;
      kept = subst (IsKeptAs r.partial) none stands.kept;
      numbered = omega (arith, length-append stands.lines adds.lines, stands.numbered, adds.each_line);
    }

pub has_read_on : {swap : Swap} (reader : ReaderValue) (text : List ℕ) → reader.fault ≡ None
    → length text ≤ reader.limit → length text ≡ reader.fed → Stands swap reader text → HasReadBut swap reader text
has_read_on {swap} reader text is short counted stands = search arith

lines_taken : (old : ReaderValue) (so_far : LinesSoFarValue) (count : ℕ) (piece : List ℕ) → old.fault ≡ None → old.partial.begun ≡ false
    → old.fed + length piece ≤ old.limit → AddsLines count piece old.so_far so_far
    → TakesPiece piece old (record old { fed = old.fed + length piece; number = old.number + count; so_far = so_far })
lines_taken old so_far count piece none fresh fits adds = record {
  limit = refl;
  within = fits;
  grows = refl;
  fed = λ swap text read.
      let (short, counted, stands) = read_on old text none read in
      has_read_on _ (text ++ piece) none (omega (arith, counted, fits, length-append text piece)) (omega (arith, counted, length-append text piece))
      (Stands-lines old so_far (old.fed + length piece) count text piece stands fresh adds);
  fault = none;
}

pub takes_lines : (was old : ReaderValue) → was ≡ old → (so_far : LinesSoFarValue) (count : ℕ) (piece : List ℕ) → was.fault ≡ None → was.partial.begun ≡ false
    → was.fed + length piece ≤ was.limit → AddsLines count piece was.so_far so_far
    → TakesPiece piece old (record was { fed = was.fed + length piece; number = was.number + count; so_far = so_far })
takes_lines was old same so_far count piece none fresh fits adds =
    subst (λ (v : ReaderValue). TakesPiece piece v (record was { fed = was.fed + length piece; number = was.number + count; so_far = so_far })) same
    (lines_taken was so_far count piece none fresh fits adds)

-- one part after another
pub fed_then : {X Y : Type 0} (x : X) (r : Result Y ReadFault) (first second : List ℕ) (old mid new : ReaderValue) → IsFed (Ok x) first old mid
    → IsFed r second mid new → IsFed r (first ++ second) old new
fed_then {X} {Y} x r first second old mid new a b = search (arith, append_assoc, length-append)

-- an error in the first part
pub fed_fault : {X : Type 0} (e : ReadFault) (first second : List ℕ) (old new : ReaderValue) → IsFed {X = X} (Err e) first old new → IsFed {X = X} (Err e) (first ++ second) old new
fed_fault e first second old new a = record {
  limit = a.limit;
  within = a.within;
  grows = a.grows;
  fed = λ swap text read. subst (HasReadBut swap new) (append_assoc text first second) (HasRead-fault new e (text ++ first) second a.fault (a.fed swap text read));
  fault = a.fault;
}
