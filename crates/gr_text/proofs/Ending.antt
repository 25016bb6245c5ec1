-- The end of a text: its last line, and what is missing after it.
use Rattle.std.proofs.Common.{◌≡◌, ℕ, ◌+◌, ◌≤◌, inl, inr, List, [], ◌∷◌, ◌++◌, refl, sym, ◌∙◌, subst, arith, append-nil, length, true, false, Result, Ok, Err, MatchResult, take_all}
use Rattle.std.proofs.lemmas.List.{length_push}
use Rattle.std.proofs.lemmas.Bool.Decides.{leb_tells}
use Rattle.gr_text.specs.Lines.{with_last, AreLines}
use Rattle.gr_text.specs.Graph.{GraphValue}
use Rattle.gr_text.specs.Fault.{IsFirstFaulty, IsFirstFault, IsEndedFault}
use Rattle.gr_text.specs.LinesSoFar.{Swap, IsLineFault, IsGraphOfLinesBut, IsLack}
use Rattle.gr_text.specs.PartialLine.{is_begun}
use Rattle.gr_text.specs.Reader.{ReaderValue, Stands, StopsBy, FailsBy, IsReadBut}
use Rattle.gr_text.specs.declared.faults.GrKind.{GrKind}
use Rattle.gr_text.specs.declared.faults.ReadFault.{ReadFault}
use Rattle.gr_text.specs.declared.faults.ReadFault.TheVariants as fault
use Rattle.gr_text.proofs.Faulty.{first_faulty_at}
use Rattle.gr_text.proofs.Feeding.{IsFirstFaulty-more}
use Rattle.gr_text.proofs.Standing.{lawful_of}

-- the lines with a last one that has begun, and without one
with_last-begun : (lines : List (List ℕ)) (part : List ℕ) → is_begun part ≡ true → with_last lines part ≡ lines ++ part ∷ []
with_last-begun a1 a2 a3 = search arith

with_last-none : (lines : List (List ℕ)) (part : List ℕ) → is_begun part ≡ false → with_last lines part ≡ lines
with_last-none a1 a2 a3 = search arith

with_last-more : (lines : List (List ℕ)) (part : List ℕ) → (more : List (List ℕ)) × (with_last lines part ≡ lines ++ more)
with_last-more lines [] = ([], sym (append-nil lines))
with_last-more lines (b ∷ part) = ((b ∷ part) ∷ [], refl)

-- the first invalid line among those that a line feed ends is that of the text
pub first_of_ended : (text : List ℕ) (number : ℕ) (kind : GrKind) → IsEndedFault text number kind → IsFirstFault text number kind
first_of_ended text number kind (lines, rest, cut, first) =
    let (more, is) = with_last-more lines rest in (
      with_last lines rest,
      (lines, rest, cut, refl),
      inl (subst (λ (xs : List (List ℕ)). IsFirstFaulty xs number kind) (sym is) (IsFirstFaulty-more lines more number kind first)),
    )

-- the last line is invalid
pub last_fault : {swap : Swap} (e : ReadFault) (limit : ℕ) (r : ReaderValue) (text : List ℕ) → length text ≤ limit → (stands : Stands swap r text) → is_begun stands.part ≡ true
    → IsLineFault e r.number stands.lines stands.part → FailsBy e limit text
last_fault (fault.Gr f) limit r text short stands begun (line_is, fits) =
    let first = first_faulty_at stands.lines stands.part [] f.line f.kind (lawful_of r.so_far stands.lines stands.give) (line_is ∙ stands.numbered) fits in
    inl (
      short,
      (
        with_last stands.lines stands.part,
        (stands.lines, stands.part, stands.cut, refl),
        inl (subst (λ (xs : List (List ℕ)). IsFirstFaulty xs f.line f.kind) (sym (with_last-begun stands.lines stands.part begun)) first),
      ),
    )
last_fault (fault.Source k) limit r text short stands begun no_such = no_such
last_fault fault.TooLong limit r text short stands begun no_such = absurd no_such
last_fault fault.Memory limit r text short stands begun any = tt

-- what the lines of the whole text give
graph_of : (swap : Swap) (outcome : Result GraphValue ReadFault) (limit : ℕ) (text : List ℕ) (lines : List (List ℕ)) (number : ℕ) → length text ≤ limit → AreLines text lines
    → number ≡ length lines + 1 → MatchResult outcome (λ graph. IsGraphOfLinesBut swap lines graph) (λ e. IsLack e number lines) → IsReadBut swap limit text outcome
graph_of a1 a2 a3 a4 a5 a6 a7 a8 a9 a10 = search arith

-- the text ends in a line feed, or is empty
pub ends_whole : {swap : Swap} (outcome : Result GraphValue ReadFault) (limit : ℕ) (r : ReaderValue) (text : List ℕ) → length text ≤ limit → (stands : Stands swap r text)
    → is_begun stands.part ≡ false → MatchResult outcome (λ graph. IsGraphOfLinesBut swap stands.lines graph) (λ e. IsLack e r.number stands.lines)
    → IsReadBut swap limit text outcome
ends_whole {swap} outcome limit r text short stands none gives = search (arith, graph_of, with_last-none)

-- the last line lacks its line feed and is valid
pub ends_within : {swap : Swap} (outcome : Result GraphValue ReadFault) (limit : ℕ) (r : ReaderValue) (text : List ℕ) → length text ≤ limit → (stands : Stands swap r text)
    → is_begun stands.part ≡ true
    → MatchResult outcome (λ graph. IsGraphOfLinesBut swap (stands.lines ++ stands.part ∷ []) graph) (λ e. IsLack e (r.number + 1) (stands.lines ++ stands.part ∷ []))
    → IsReadBut swap limit text outcome
ends_within {swap} outcome limit r text short stands begun gives =
    graph_of swap outcome limit text (stands.lines ++ stands.part ∷ []) (r.number + 1) short
    (stands.lines, stands.part, stands.cut, sym (with_last-begun stands.lines stands.part begun)) (omega (arith, length_push stands.lines stands.part, stands.numbered)) gives

-- what stopped the reader is why the whole text has no graph
pub fails_of_stops : (e : ReadFault) (limit : ℕ) (text : List ℕ) → StopsBy e limit text → FailsBy e limit text
fails_of_stops a1 a2 a3 a4 = search (arith, leb_tells, first_of_ended, take_all)
