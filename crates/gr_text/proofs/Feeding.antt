-- What a reader has read after another piece is fed. What stopped it stays the same.
use Rattle.std.proofs.Common.{◌≡◌, ℕ, ◌+◌, ◌-◌, ◌<◌, ◌≤◌, min, inl, inr, List, [], ◌∷◌, ◌++◌, refl, ap, sym}
use Rattle.std.proofs.Common.{◌∙◌, subst, arith, append_assoc, length, take, Option, Some, None, MatchOption, length-append, append-nil, ◌==◌, Bool, cond, take_all}
use Rattle.std.specs.List.{AllByRecursion, flat_map, count_by}
use Rattle.std.proofs.lemmas.List.{take-append-le}
use Rattle.std.proofs.Math.Seq.{take-append-add}
use Rattle.std.proofs.lemmas.List.Sums.{sum_by-append}
use Rattle.std.proofs.lemmas.Bool.{cases_lt}
use Rattle.std.proofs.lemmas.Bool.Decides.{eqb_tells}
use Rattle.gr_text.specs.Lines.{line_feed, IsLine, ended, EndsLines}
use Rattle.gr_text.specs.Fault.{IsFirstFaulty, IsEndedFault, HasLawfulLines}
use Rattle.gr_text.specs.LinesSoFar.{Swap}
use Rattle.gr_text.specs.Reader.{ReaderValue, Stands, StopsAt, StopsBy, HasReadBut}
use Rattle.gr_text.specs.declared.faults.GrKind.{GrKind}
use Rattle.gr_text.specs.declared.faults.ReadFault.{ReadFault}
use Rattle.gr_text.specs.declared.faults.ReadFault.TheVariants as fault
use Rattle.gr_text.proofs.Cuts.{cut_of, EndsLines-more}
use Rattle.gr_text.proofs.Standing.{lawful_of}

-- more lines after the first invalid one
pub IsFirstFaulty-more : (lines more : List (List ℕ)) (number : ℕ) (kind : GrKind) → IsFirstFaulty lines number kind → IsFirstFaulty (lines ++ more) number kind
IsFirstFaulty-more lines more number kind first = search (arith, append_assoc)

pub IsEndedFault-more : (text more : List ℕ) (number : ℕ) (kind : GrKind) → IsEndedFault text number kind → IsEndedFault (text ++ more) number kind
IsEndedFault-more text more number kind (lines, rest, cut, first) =
    let (others, r, cut') = cut_of (rest ++ more) in
    (lines ++ others, r, EndsLines-more text more lines others rest r cut cut', IsFirstFaulty-more lines others number kind first)

-- a prefix of a longer text
pub take_of_more : (limit : ℕ) (text more : List ℕ) → take limit (text ++ more) ≡ take limit text ++ take (limit - length text) more
take_of_more limit text more = elim (cases_lt limit (length text)) [
  | inl short ↦ (let none : limit - length text ≡ 0 = omega arith in
      take-append-le limit text more (omega arith) ∙ sym (append-nil (take limit text)) ∙ ap (λ (k : ℕ). take limit text ++ take k more) (sym none))
  | inr long ↦ (let whole : limit ≡ length text + (limit - length text) = omega arith in
      ap (λ (k : ℕ). take k (text ++ more)) whole ∙ take-append-add text more (limit - length text) ∙ ap (λ (xs : List ℕ). xs ++ take (limit - length text) more) (sym (take_all limit text long)))
]

-- what stopped the reader is also right for every longer text
pub StopsBy-more : (e : ReadFault) (limit : ℕ) (text more : List ℕ) → StopsBy e limit text → StopsBy e limit (text ++ more)
StopsBy-more (fault.Gr f) limit text more stops =
    subst (λ (xs : List ℕ). IsEndedFault xs f.line f.kind) (sym (take_of_more limit text more)) (IsEndedFault-more (take limit text) (take (limit - length text) more) f.line f.kind stops)
StopsBy-more (fault.Source number) limit text more stops = stops
StopsBy-more fault.TooLong limit text more (longer, lawful) =
    (omega (arith, length-append text more), subst HasLawfulLines (sym (take-append-le limit text more (omega arith))) lawful)
StopsBy-more fault.Memory limit text more stops = tt

-- what a reader without an error has read
pub read_on : {swap : Swap} (reader : ReaderValue) (text : List ℕ) → reader.fault ≡ None → HasReadBut swap reader text
    → (length text ≤ reader.limit) × (length text ≡ reader.fed) × Stands swap reader text
read_on {swap} reader text is read = search arith

pub stopped_by : {swap : Swap} (reader : ReaderValue) (e : ReadFault) (text : List ℕ) → reader.fault ≡ Some e → HasReadBut swap reader text → StopsBy e reader.limit text
stopped_by reader e text is read = rw is at read.outcome

pub has_stopped : {swap : Swap} (reader : ReaderValue) (e : ReadFault) (text : List ℕ) → reader.fault ≡ Some e → StopsBy e reader.limit text → HasReadBut swap reader text
has_stopped reader e text is stops = record { outcome = rw is stops }

-- a reader that has stopped
pub HasRead-fault : {swap : Swap} (reader : ReaderValue) (e : ReadFault) (text more : List ℕ) → reader.fault ≡ Some e → HasReadBut swap reader text → HasReadBut swap reader (text ++ more)
HasRead-fault reader e text more is read = has_stopped reader e (text ++ more) is (StopsBy-more e reader.limit text more (stopped_by reader e text is read))

-- the part of a piece that is within the limit
pub fitting : (limit fed len : ℕ) (text piece : List ℕ) → length text ≡ fed → fed ≤ limit → len ≡ min (limit - fed) (length piece) → take limit (text ++ piece) ≡ text ++ take len piece
fitting limit fed len text piece counted within is = search (arith, take_of_more, take_all, cases_lt)

-- the reader stops within a piece
pub stops_within : (e : ReadFault) (limit fed len : ℕ) (text piece : List ℕ) → length text ≡ fed → fed ≤ limit
    → len ≡ min (limit - fed) (length piece) → StopsAt e (text ++ take len piece) → StopsBy e limit (text ++ piece)
stops_within a1 a2 a3 a4 a5 a6 a7 a8 a9 a10 = search (arith, fitting)

-- the piece goes past the limit
pub too_long : (limit fed len : ℕ) (text piece : List ℕ) → length text ≡ fed → fed ≤ limit → len ≡ min (limit - fed) (length piece) → len < length piece
    → HasLawfulLines (text ++ take len piece) → StopsBy fault.TooLong limit (text ++ piece)
too_long limit fed len text piece counted within is short lawful = search (arith, length-append, fitting)

pub lawful_lines : {swap : Swap} (r : ReaderValue) (text : List ℕ) → Stands swap r text → HasLawfulLines text
lawful_lines r text stands = (stands.lines, stands.part, stands.cut, lawful_of r.so_far stands.lines stands.give)

-- the line feeds of a text are those of its parts
feeds-append : (xs ys : List ℕ) → count_by (λ b. b == line_feed) (xs ++ ys) ≡ count_by (λ b. b == line_feed) xs + count_by (λ b. b == line_feed) ys
feeds-append xs ys = sum_by-append (λ (b : ℕ). cond (b == line_feed) 1 0) xs ys

no_feeds : (part : List ℕ) → IsLine part → count_by (λ b. b == line_feed) part ≡ 0
no_feeds [] is_line = refl
no_feeds (b ∷ part) is_line = search (arith, feeds-append, eqb_tells, cond, no_feeds part is_line.1)

one_each : (lines : List (List ℕ)) → AllByRecursion IsLine lines → count_by (λ b. b == line_feed) (flat_map ended lines) ≡ length lines
one_each [] each = refl
one_each (line ∷ lines) each = search (arith, feeds-append, no_feeds, one_each lines each.1)

pub feeds_of : (text : List ℕ) (lines : List (List ℕ)) (part : List ℕ) → EndsLines text lines part → count_by (λ b. b == line_feed) text ≡ length lines
feeds_of text lines part cut = search (arith, feeds-append, no_feeds, one_each)
