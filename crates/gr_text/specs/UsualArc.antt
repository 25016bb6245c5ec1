-- The usual form of an arc line, which is read at once.
use Rattle.std.specs.Prelude.{◌≡◌, ◌≢◌, ℕ, ◌+◌, ◌<◌, ◌≤◌, ◌⊎◌, List, [], ◌∷◌, ◌++◌, length, drop, codes}
use Rattle.std.specs.List.{AllByRecursion}
use Rattle.gr_text.specs.Lines.{line_feed, ended}
use Rattle.gr_text.specs.Fields.{IsDigit}
use Rattle.gr_text.specs.Word.{KeepsNumber, KeepsSigned}
use Rattle.gr_text.specs.PartialLine.{IsWhole}
use Rattle.gr_text.specs.declared.words.LineFields.{LineFields}
use Rattle.gr_text.specs.declared.words.Signed.{Signed}

-- one to nineteen digits
pub record IsShort (field : List ℕ) : Type 0 where
  pub some : field ≢ []
  pub digits : AllByRecursion IsDigit field
  pub few : length field ≤ 19

-- the same with at most one minus sign before them
abbrev pub IsShortSigned : List ℕ → Type 0
IsShortSigned field = IsShort field ⊎ ((digits : List ℕ) × (field ≡ 45 ∷ digits) × IsShort digits)

-- no bytes, or the carriage return that some systems put before a line feed
abbrev pub IsLineEnd : List ℕ → Type 0
IsLineEnd bytes = (bytes ≡ []) ⊎ (bytes ≡ 13 ∷ [])

-- A line `a U V W` of such numbers, with one space between two fields. The only other blank is a carriage return at its
-- end, and only W may have a minus sign.
pub record IsUsualArc (line : List ℕ) : Type 0 where
  pub tail : List ℕ
  pub head : List ℕ
  pub weight : List ℕ
  pub end : List ℕ
  pub spelled : line ≡ codes "a " ++ (tail ++ 32 ∷ (head ++ 32 ∷ (weight ++ end)))
  pub short_tail : IsShort tail
  pub short_head : IsShort head
  pub short_weight : IsShortSigned weight
  pub ends : IsLineEnd end

-- the bytes are a field of this form, stored as `kept`, then `stop` and the rest
abbrev pub BeginsWithShort : ℕ → ℕ → List ℕ → List ℕ → Type 0
BeginsWithShort kept stop bytes rest = (field : List ℕ) × IsShort field × KeepsNumber kept field × (bytes ≡ field ++ stop ∷ rest)

-- the same with `stop` at this index
abbrev pub HasShortBefore : ℕ → ℕ → ℕ → List ℕ → Type 0
HasShortBefore kept place stop bytes = (place < length bytes) × BeginsWithShort kept stop bytes (drop (place + 1) bytes)

-- the bytes are this field, the end of its line and the rest
abbrev pub EndsBehind : List ℕ → List ℕ → List ℕ → Type 0
EndsBehind field bytes rest = (end : List ℕ) × IsLineEnd end × (bytes ≡ field ++ (end ++ line_feed ∷ rest))

-- the bytes are a field of this form, stored as `kept`, then the end of a line and the rest
abbrev pub BeginsWithLast : ℕ → List ℕ → List ℕ → Type 0
BeginsWithLast kept bytes rest = (field : List ℕ) × IsShort field × KeepsNumber kept field × EndsBehind field bytes rest

-- the same for a number that may have a minus sign
abbrev pub BeginsWithShortSigned : Signed → List ℕ → List ℕ → Type 0
BeginsWithShortSigned kept bytes rest = (field : List ℕ) × IsShortSigned field × KeepsSigned kept field × EndsBehind field bytes rest

-- the bytes are such a line, stored as `kept`, its line feed and the rest
abbrev pub BeginsWithUsualArc : LineFields → List ℕ → List ℕ → Type 0
BeginsWithUsualArc kept bytes rest = (line : List ℕ) × IsUsualArc line × IsWhole kept line × (bytes ≡ ended line ++ rest)

-- the bytes don't begin with such a field before `stop`, with one before the end of a line, or with such a line
abbrev pub HasNoShort : ℕ → List ℕ → Type 0
HasNoShort stop bytes = (field rest : List ℕ) → IsShort field → bytes ≢ field ++ stop ∷ rest

abbrev pub HasNoLast : List ℕ → Type 0
HasNoLast bytes = (field rest : List ℕ) → IsShort field → ¬ (EndsBehind field bytes rest)

abbrev pub HasNoShortSigned : List ℕ → Type 0
HasNoShortSigned bytes = (field rest : List ℕ) → IsShortSigned field → ¬ (EndsBehind field bytes rest)

abbrev pub HasNoUsualArc : List ℕ → Type 0
HasNoUsualArc bytes = (line rest : List ℕ) → IsUsualArc line → bytes ≢ ended line ++ rest
