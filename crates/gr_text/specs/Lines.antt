-- The lines of a text.
use Rattle.std.specs.Prelude.{◌≡◌, ◌≢◌, ℕ, ◌+◌, ◌==◌, List, [], ◌∷◌, ◌++◌, count_by}
use Rattle.std.specs.List.{AllByRecursion, flat_map}

abbrev pub line_feed : ℕ
line_feed = 10

-- the number of the line that the byte after a text belongs to
abbrev pub line_after : List ℕ → ℕ
line_after text = 1 + count_by (λ b. b == line_feed) text

-- the bytes of a line
abbrev pub IsLine : List ℕ → Type 0
IsLine bytes = AllByRecursion (λ b. b ≢ line_feed) bytes

-- a line with the byte that ends it
abbrev pub ended : List ℕ → List ℕ
ended line = line ++ line_feed ∷ []

-- the text consists of these lines, each ended by a line feed, and then a rest without a line feed
pub record EndsLines (text : List ℕ) (lines : List (List ℕ)) (rest : List ℕ) : Type 0 where
  pub whole : text ≡ flat_map ended lines ++ rest
  pub each : AllByRecursion IsLine lines
  pub last : IsLine rest

-- the lines and the last one, which lacks its line feed; if the rest is empty, there is no such line
abbrev pub with_last : List (List ℕ) → List ℕ → List (List ℕ)
with_last lines [] = lines
with_last lines (b ∷ bytes) = lines ++ (b ∷ bytes) ∷ []

-- the lines of a text
abbrev pub AreLines : List ℕ → List (List ℕ) → Type 0
AreLines text lines = (before : List (List ℕ)) × (rest : List ℕ) × EndsLines text before rest × (lines ≡ with_last before rest)
