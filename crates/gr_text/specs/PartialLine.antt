-- A line that has come in part.
use Rattle.std.specs.Prelude.{◌≡◌, ℕ, Bool, true, false, List, [], ◌∷◌, ◌++◌}
use Rattle.std.specs.List.{AllByRecursion}
use Rattle.gr_text.specs.Lines.{IsLine, ended}
use Rattle.gr_text.specs.Fields.{IsFieldByte, BeginsBlank, AreFields}
use Rattle.gr_text.specs.Word.{WordMeans, LineMeans}
use Rattle.gr_text.specs.declared.partial_line.PartialLine.{PartialLine}
use Rattle.gr_text.specs.declared.words.LineFields.{LineFields}

-- the fields, and one more if it isn't empty
abbrev pub with_field : List (List ℕ) → List ℕ → List (List ℕ)
with_field fields [] = fields
with_field fields (b ∷ bytes) = fields ++ (b ∷ bytes) ∷ []

-- The part has these whole fields, and ends in the bytes of one more, if any. If more bytes of that field follow, and
-- then bytes that begin with a blank, the fields of the whole line are those.
abbrev pub AreParts : List ℕ → List (List ℕ) → List ℕ → Type 0
AreParts part fields last = (more after : List ℕ) (others : List (List ℕ)) → AllByRecursion IsFieldByte more
    → BeginsBlank after → AreFields after others
    → AreFields (part ++ more ++ after) (with_field fields (last ++ more) ++ others)

-- whether a byte has come
abbrev pub is_begun : List ℕ → Bool
is_begun [] = false
is_begun (b ∷ bytes) = true

-- this part of a line is stored as `partial`
abbrev pub IsKeptAs : PartialLine → List ℕ → Type 0
IsKeptAs partial part = (partial.begun ≡ is_begun part)
    × ((fields : List (List ℕ)) × (last : List ℕ) × AreParts part fields last × LineMeans partial.on fields × WordMeans partial.word last)

-- what is stored of a whole line
abbrev pub IsWhole : LineFields → List ℕ → Type 0
IsWhole line bytes = (fields : List (List ℕ)) × AreFields bytes fields × LineMeans line fields

-- the bytes continue this part of a line without ending it, and the longer part is stored
abbrev pub GoesOn : PartialLine → List ℕ → List ℕ → Type 0
GoesOn partial part bytes = IsLine bytes × IsKeptAs partial (part ++ bytes)

-- After this part of a line, the bytes are its end, its line feed and the rest. The line is stored as `kept`, and
-- nothing of the next line is stored.
abbrev pub EndsLine : PartialLine → LineFields → List ℕ → List ℕ → List ℕ → Type 0
EndsLine fresh kept part bytes rest = IsKeptAs fresh []
    × ((line : List ℕ) × IsLine line × (bytes ≡ ended line ++ rest) × IsWhole kept (part ++ line))
